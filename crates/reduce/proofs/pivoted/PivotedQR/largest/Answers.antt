-- of r_diag from j on
use Prim.Native.Nat.{◌-◌, ℕ, ◌<◌}
use mathlib.Core.Path.{◌≡◌, ap, ◌∙◌}
use mathlib.Core.List.{List}
use native.Mathlib.Omega.{arith}
use lib.ListN.{length, take, drop, length-drop}
use lib.Seq.{take_all}
use lib.Ieee.{Float}
use Rattle.std.specs.Prelude.{Result, is_ok}
use Rattle.leaves.specs.Reply.{reply_of}
use Rattle.leaves.specs.declared.reply.Refusal.{Refusal}
use Rattle.leaves.specs.Vector.{imax}
use Rattle.reduce.proofs.Pivots.{imax_fits, imax_told}
use Rattle.reduce.proofs.pivoted.PivotedQR.largest.Goals as goal

module _ (n j : ℕ) (d : List Float) (r : Result ℕ Refusal) (h : j < n) (l : length d ≡ n) (e : reply_of r ≡ imax (take (n - j) (drop j d))) where
  some : 0 < length (drop j d)
  some = simp length-drop (omega arith)

  there : reply_of r ≡ imax (drop j d)
  there = e ∙ ap imax (take_all (n - j) (drop j d) (simp length-drop (omega arith)))

pub unwrap-requires : goal.unwrap-requires
unwrap-requires c =
    let q = c.args.self.now in
    let j = c.args.j in
    let d = q.diag.now in
    ap is_ok (imax_fits (drop j d) _ (some q.n j d _ c.requires q.diag_long c.imax.ensures) (there q.n j d _ c.requires q.diag_long c.imax.ensures))

pub returns : goal.returns
returns c =
    let q = c.args.self.now in
    let j = c.args.j in
    let d = q.diag.now in
    let t = imax_told (drop j d) _ (some q.n j d _ c.requires q.diag_long c.imax.ensures) (there q.n j d _ c.requires q.diag_long c.imax.ensures) c.unwrap.ensures in
    let w = t.1 in
    let l = length-drop j d in
    let long = q.diag_long in
    record { value = t.0; below = omega arith }
