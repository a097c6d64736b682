-- `writer_bytes::put_zeros` meets its contract: a part filled. Assumes nothing.
use mathlib.Core.Path.{◌≡◌, ap, ◌∙◌}
use mathlib.Core.List.{List}
use Prim.Native.Nat.{ℕ}
use native.Mathlib.Omega.{arith}
use lib.ListN.{length, drop, replicate, length-drop, length-replicate}
use lib.Seq.{length-take-le}
use Rattle.laws.proofs.Loops.{get_d_zeros}
use Rattle.writer_bytes.specs.Puts.{put, bytes_of}
use Rattle.writer_bytes.proofs.Puts.{mid_put, put_cong}
use Rattle.writer_bytes.proofs.put_zeros.Goals as goal

pub returns : goal.returns
returns c =
    let x = c.args in
    let zeros : List ℕ = replicate x.n 0 in
    let long : length zeros ≡ x.n = length-replicate x.n 0 in
    mid_put x.at _ x.out.now zeros c.fill.new.self (omega (arith, long)) (omega (arith, long))
    (c.fill.ensures.after (λ y h. h) ∙ ap (λ (n : ℕ). replicate n 0)
    (length-take-le _ (drop x.at x.out.now) (omega (arith, length-drop x.at x.out.now)) ∙ omega arith))
    ∙ ap (λ (n : ℕ). put x.at n (bytes_of zeros) x.out.now) long
    ∙ put_cong x.at x.n (bytes_of zeros) (λ _. 0) x.out.now (λ k l. get_d_zeros x.n k 0)
