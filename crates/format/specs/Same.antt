-- Two jobs with the same words: what a file's bytes say of a job, and no more. Bytes past a field and entries past the head's numbers do not count.
use Rattle.std.specs.Prelude.{◌≡◌, ℕ, ◌<◌}
use Rattle.format.specs.Codes.{Code}
use Rattle.format.specs.Job.{Offer, Tally, FileJob}

-- The same digit count, and the same bytes of the field.
pub record SameCode (a b : Code) : Type 0 where
  pub size : a.size ≡ b.size
  pub digit : (k : ℕ) → k < 10 → a.digit k ≡ b.digit k

-- Two offers with the same words.
pub record OfferWords (a b : Offer) : Type 0 where
  pub price : a.price ≡ b.price
  pub owner : a.owner ≡ b.owner
  pub code : SameCode a.code b.code
  pub issuer : a.issuer ≡ b.issuer

-- Two tallies with the same words.
pub record TallyWords (a b : Tally) : Type 0 where
  pub grocer : a.grocer ≡ b.grocer
  pub box : a.box ≡ b.box
  pub code : SameCode a.code b.code
  pub count : a.count ≡ b.count
  pub issuer : a.issuer ≡ b.issuer
  pub bag : a.bag ≡ b.bag
  pub revision : a.revision ≡ b.revision

-- The same head, and the same words in each table as far as it counts: two jobs that are one.
pub record SameWords (a b : FileJob) : Type 0 where
  pub head : a.head ≡ b.head
  pub offer : (i : ℕ) → i < b.head.offers → OfferWords (a.offer i) (b.offer i)
  pub grocer_owner : (i : ℕ) → i < b.head.grocers → a.grocer_owner i ≡ b.grocer_owner i
  pub list_price : (q i : ℕ) → q < b.head.lists → i < b.head.offers → a.list_price q i ≡ b.list_price q i
  pub tally : (i : ℕ) → i < b.head.tallies → TallyWords (a.tally i) (b.tally i)
