-- `file_blocks::fill::fill_lists` meets its contract. The invariant: the first list and the first q additional ones are written. Assumes nothing.
use mathlib.Core.Path.{◌≡◌, refl, sym, ap, ◌∙◌}
use mathlib.Core.List.{List}
use Prim.Native.Nat.{ℕ, suc, ◌+◌, ◌*◌, ◌≤◌, ◌<◌}
use native.Mathlib.Nat.{mul_comm}
use native.Mathlib.Omega.{arith}
use lib.ListN.{length}
use Rattle.laws.specs.Lists.{list_words}
use Rattle.laws.specs.Tables.{overwrite, recell}
use Rattle.laws.proofs.Tables.{row_in, row_next, over-over}
use Rattle.format.specs.Job.{Head, price_on}
use Rattle.format.specs.Blocks.{list_blocks, prices_at, list_at}
use Rattle.format.specs.File.{decode}
use Rattle.file_blocks.specs.Due.{as_head}
use Rattle.file_blocks.proofs.RecordWords.{list_price_lem}
use Rattle.file_blocks.proofs.Copies.{one_row, rows_more, rows_over}
use Rattle.file_blocks.proofs.fill.fill_lists.Goals as goal

-- The prices that a file says, by list and offer.
abbrev prices : List ℕ → ℕ → ℕ → ℕ
prices f = price_on (decode f).offer (decode f).list_price

-- The first list is written,
first_list_lem : (f l x : List ℕ) (n : ℕ) → x ≡ overwrite n (λ i. ((decode f).offer i).price) l → x ≡ recell 1 n (prices f) x
unfolding price_on
first_list_lem f l x n e = e ∙ sym (over-over n _ _ l) ∙ ap (overwrite n (prices f 0)) (sym e) ∙ one_row n (prices f) x

-- and the next one is the file's.
next_list : (f : List ℕ) (q i : ℕ) → (decode f).list_price q i ≡ prices f (q + 1) i
unfolding price_on
next_list f q i = let e : suc q ≡ q + 1 = omega arith in ap (λ (k : ℕ). prices f k i) e

-- All lists are written.
all_lists : (f l x y : List ℕ) (n q v : ℕ) → x ≡ overwrite n (λ i. ((decode f).offer i).price) l → y ≡ recell (q + 1) n (prices f) x → q ≡ v → (v + 1) * n ≤ length l →
    y ≡ recell (suc v) n (prices f) l
all_lists f l x y n q v e d h long =
    let a : q + 1 ≡ v + 1 = omega arith in
    let b : v + 1 ≡ suc v = omega arith in
    d ∙ ap (λ (k : ℕ). recell k n (prices f) x) a ∙ ap (recell (v + 1) n (prices f)) e
    ∙ rows_over v n (prices f) (λ i. ((decode f).offer i).price) l long ∙ ap (λ (k : ℕ). recell k n (prices f) l) b

-- The table has a row for each list.
rows : (l n : ℕ) {size : ℕ} → list_words l n ≤ size → (l + 1) * n ≤ size
rows l n h =
    let e : suc l ≡ l + 1 = omega arith in
    omega (arith, h, mul_comm n (suc l), ap (λ (k : ℕ). k * n) e)

-- Where additional list q stands, in the file and in the table.
record Turn (h : Head) (q n b first size : ℕ) : Type 0 where
  place : first + q * b ≡ list_at h q
  row : (q + 1) * n + n ≤ size

turn : (h : Head) → {q n b first size : ℕ} → n ≡ h.offers → b ≡ list_blocks n → first ≡ prices_at h → q < h.lists → list_words h.lists h.offers ≤ size → Turn h q n b first size
turn h {q} {n} {b} {first} {size} en eb ef l long =
    record {
      place = here;
      row = omega (arith, rows h.lists n (rw (sym en) at long), row_in (q + 1) (h.lists + 1) n (omega arith));
    }
  where
    here : first + q * b ≡ list_at h q
    here = omega (arith, ef, ap (λ (x : ℕ). q * x) (eb ∙ ap list_blocks en))

pub loop-q-init : goal.loop-q-init
loop-q-init c =
    first_list_lem c.args.file.now.bytes.now _ _ _ c.fill_prices.ensures

pub loop-q-preserved : goal.loop-q-preserved
loop-q-preserved c =
    let f = c.args.file.now.bytes.now in
    let h = as_head c.args.file.now.head in
    let n = c.from-n.result in
    let q = c.loop-q.q in
    let last : q < h.lists = omega arith in
    let t = turn h c.from-n.ensures c.list_blocks-blocks.ensures c.prices_at-first.ensures last c.requires in
    rows_more (q + 1) n (prices f) _ _ _ _ c.loop-q.invariant (omega (arith, t.row, c.fill_prices.auto.price, row_next (q + 1) n)) (c.fill_list.auto.price ∙ c.loop-q.auto.price)
    refl c.fill_list.ensures (λ o l. list_price_lem f q o c.args.file.now.whole t.place ∙ next_list f q o)

pub returns : goal.returns
returns c =
    let z = c.args.file.now.head.sizes in
    let all : c.loop-q.q ≡ z.lists = omega arith in
    all_lists c.args.file.now.bytes.now _ _ _ z.offers c.loop-q.q z.lists (rw c.from-n.ensures at c.fill_prices.ensures) (rw c.from-n.ensures at c.loop-q.invariant) all (rows z.lists z.offers c.requires)
