-- E's evening computes, step by step. Assumes nothing.
use mathlib.Core.Path.{refl}
use Rattle.model.specs.Evening.{Evening}
use Rattle.model.proofs.Cases.{computed}

pub evening : Evening
unfolding computed
evening = record {
  prices_0 = refl;
  amounts_0 = refl;
  prices_1 = refl;
  amounts_1 = refl;
  prices_2 = refl;
  amounts_2 = refl;
  prices_3 = refl;
  amounts_3 = refl;
  prices_4 = refl;
  amounts_4 = refl;
  prices_5 = refl;
  amounts_5 = refl;
  prices_6 = refl;
  amounts_6 = refl;
  prices_7 = refl;
  amounts_7 = refl;
  prices_8 = refl;
  amounts_8 = refl;
  prices_9 = refl;
  amounts_9 = refl;
  prices_10 = refl;
  amounts_10 = refl;
  offers_0 = refl;
  offers_1 = refl;
  grocers_0 = refl;
  grocers_1 = refl;
}
