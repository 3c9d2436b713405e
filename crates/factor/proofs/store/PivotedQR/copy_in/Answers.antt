-- the Jacobian's part of the bench, copied
use Prim.Native.Nat.{ℕ, ◌+◌, ◌*◌, ◌-◌, ◌≤◌}
use mathlib.Core.Path.{◌≡◌, refl, sym, ap, ◌∙◌}
use mathlib.Core.List.{List, ◌++◌}
use native.Mathlib.Omega.{arith}
use lib.ListN.{length, take, drop}
use lib.Seq.{length-take-le, drop-drop}
use lib.Ieee.{Float}
use Rattle.std.specs.Prelude.{Result, Ok, is_ok}
use Rattle.leaves.specs.Reply.{Reply, reply_of}
use Rattle.leaves.specs.declared.reply.Refusal.{Refusal}
use Rattle.leaves.proofs.Replies.{reply_of-ok}
use Rattle.leaves.specs.Vector.{copy}
use Rattle.leaves.specs.inner.Patch.{patch}
use Rattle.leaves.proofs.Folds.{copy_is, copy_leaves}
use Rattle.factor.proofs.Stores.{behind}
use Rattle.factor.proofs.store.PivotedQR.copy_in.Goals as goal

copied : (p : ℕ) (jac bench l : List Float) {d : Reply (Unit {0})} → p ≤ length jac → p ≤ length bench → (d, l) ≡ copy (take p jac) (take p bench) → l ≡ take p jac
copied p jac bench l hj hb e = copy_leaves (take p jac) (take p bench) l (length-take-le p jac hj ∙ sym (length-take-le p bench hb)) e

-- which is not refused
taken : (p : ℕ) (jac bench l : List Float) (r : Result (Unit {0}) Refusal) → p ≤ length jac → p ≤ length bench → (reply_of r, l) ≡ copy (take p jac) (take p bench) → r ≡ Ok tt
taken p jac bench l r hj hb e =
    let h = copy_is (take p jac) (take p bench) (take p jac) (length-take-le p jac hj ∙ sym (length-take-le p bench hb)) refl in
    reply_of-ok r (ap (λ (q : Reply (Unit {0}) × List Float). q.0) (e ∙ sym h))

-- and the residuals' part behind it
both_parts : (p w k : ℕ) (a b s y z : List Float) → length a ≡ p → w ≡ k → y ≡ a → z ≡ b → patch p w (y ++ drop p s) z ≡ a ++ (b ++ drop (p + k) s)
both_parts p w k a b s y z la ew ey ez = rw (ew, ey, ez) (behind p k a (drop p s) b la ∙ ap (λ (l : List Float). a ++ (b ++ l)) (drop-drop k p s))

pub unwrap-requires : goal.unwrap-requires
unwrap-requires c =
    let h = c.args in
    let g = h.self.now in
    let p = g.m * g.n in
    ap is_ok (taken p h.jacobian.now g.bench.now c.copy_long.new.dst c.copy_long.result (omega arith) (omega arith) c.copy_long.ensures)

pub returns : goal.returns
returns c =
    let h = c.args in
    let g = h.self.now in
    let x = c.copy_long in
    let p = g.m * g.n in
    let y = copied p h.jacobian.now g.bench.now x.new.dst (omega arith) (omega arith) x.ensures in
    record {
      same = record { rows = refl; across = refl; store = refl; order = refl; bench = refl };
      store_unchanged = refl;
      order_unchanged = refl;
      bench_after = both_parts p (p + g.m - p) g.m (take p h.jacobian.now) (take g.m h.residuals.now) g.bench.now x.new.dst _ (length-take-le p h.jacobian.now (omega arith)) (omega arith) y c.copy_from_slice.ensures.after;
    }
