-- What the reader gives: a refusal, or the sizes with every table filled. Assumes nothing.
use mathlib.Core.Path.{◌≡◌, sym, ap, ◌∙◌, subst}
use mathlib.Core.Bool.{true, false}
use mathlib.Core.List.{List}
use Prim.Native.Nat.{ℕ, suc, ◌≤◌}
use native.Mathlib.Nat.{mul-le-mul}
use native.Mathlib.Omega.{arith}
use lib.Dec.{ltb}
use lib.ListN.{length}
use borrow.Author.Tests.{ltb-false}
use Rattle.laws.proofs.Bools.{or_off}
use Rattle.laws.proofs.Checks.{one_met, one_off}
use Rattle.format.specs.Job.{Head}
use Rattle.format.specs.File.{decode}
use Rattle.format.specs.Tables.{ReaderTables, store_offers, store_tallies, store, store_read, ReadAnswer, sizes, refused, largest, short_tables, short_reader, read_refusal, read_result}
use Rattle.format.specs.Refusals.{file_refusal}
use Rattle.file_blocks.specs.Due.{Most}
use Rattle.reader.specs.Filled.{Room, Filled}
use Rattle.format.proofs.Firsts.{hit, next, alone}
use Rattle.format.proofs.Tables.{read_accepted, read_refused, long_tables}

-- 20 comes first,
pub short_refused : (f : List ℕ) (l : ReaderTables) → short_reader l ≡ true → 20 ≡ read_refusal f l
unfolding read_refusal
short_refused f l h = sym (rw (one_met (short_reader l) 20 h) (hit 20 _ (omega arith)))

-- and then the file decides.
pub file_decides : (f : List ℕ) (l : ReaderTables) (r : ℕ) → short_reader l ≡ false → r ≡ file_refusal f → r ≡ read_refusal f l
unfolding read_refusal
file_decides f l r h e = e ∙ sym (rw (one_off (short_reader l) 20 h, next) (alone (file_refusal f)))

-- They are the tables that the format says.
filled_stored : (f : List ℕ) (l l' : ReaderTables) → Filled f (decode f).head l l' → l' ≡ store_read (decode f) l
unfolding store_read store store_offers store_tallies
filled_stored f l l' w =
    λ i. record {
      job = record {
        offers = record { price = w.price i; owner = w.owner i; code = w.code i; issuer = w.issuer i };
        grocer_owner = w.grocer_owner i;
        tallies = record {
          grocer = w.tally_grocer i;
          box = w.tally_box i;
          code = w.tally_code i;
          count = w.tally_count i;
          issuer = w.tally_issuer i;
          bag = w.tally_bag i;
          revision = w.tally_revision i;
        };
      };
      tally_offer = w.tally_offer i;
    }

module _ (f : List ℕ) (l : ReaderTables) where
  -- A refusal.
  pub read_refusal_lem : (r : ℕ) → r ≡ read_refusal f l → (r ≡ 0 → ⊥) → record { answer = refused r; tables = l } ≡ read_result f l
  read_refusal_lem r e n = rw (sym e) at (sym (read_refused f l (λ z. n (e ∙ z))))

  -- A job.
  pub read_job : {a : ReadAnswer} {l' : ReaderTables} (h : Head) → a ≡ sizes h → read_refusal f l ≡ 0 → h ≡ (decode f).head → Filled f h l l' → record { answer = a; tables = l' } ≡ read_result f l
  read_job {a} {l'} h ea ok e w =
      let z = filled_stored f l l' (subst (λ (x : Head). Filled f x l l') e w) in
      ap (λ (x : ReadAnswer). record { answer = x; tables = l' }) ea
      ∙ (λ i. record { answer = sizes (e i); tables = z i }) ∙ sym (read_accepted f l ok)

-- So it is where no table is short.
pub room : (h : Head) (l : ReaderTables) → Most h → short_reader l ≡ false → Room h l
unfolding short_reader
room h l m s =
    let o = or_off (short_tables largest l.job) (ltb (length l.tally_offer) 1_000) s in
    let r = long_tables largest l.job o.0 in
    let lists_in : suc h.lists ≤ 8 = omega (arith, m.lists) in
    record {
      tables = record {
        offers = record {
          price = omega (arith, mul-le-mul {n₂ = 500} {m₂ = 8} m.offers lists_in, r.offers.price);
          owner = omega (arith, m.offers, r.offers.owner);
          code = omega (arith, m.offers, r.offers.code);
          issuer = omega (arith, m.offers, r.offers.issuer);
        };
        grocer_owner = omega (arith, m.grocers, r.grocer_owner);
        tallies = record {
          grocer = omega (arith, m.tallies, r.tallies.grocer);
          box = omega (arith, m.tallies, r.tallies.box);
          code = omega (arith, m.tallies, r.tallies.code);
          count = omega (arith, m.tallies, r.tallies.count);
          issuer = omega (arith, m.tallies, r.tallies.issuer);
          bag = omega (arith, m.tallies, r.tallies.bag);
          revision = omega (arith, m.tallies, r.tallies.revision);
        };
      };
      tally_offer = omega (arith, m.tallies, ltb-false (length l.tally_offer) 1_000 o.1);
    }
