use Prim.Native.Nat.{◌+◌, ◌*◌, ◌-◌}
use mathlib.Core.Path.{sym, ap, ◌∙◌}
use native.Mathlib.Omega.{arith}
use borrow.Author.Rules.{rules}
use lib.ListN.{length, length-take}
use lib.Seq.{length-take-le}
use lib.Ieee.{of_bits}
use Rattle.factor.proofs.Stores.{transformed_long, store_laid}
use Rattle.factor.proofs.factor.lay_store.Goals as goal

pub lay_out-requires : goal.lay_out-requires
lay_out-requires c = record { diag_len = search rules; square_len = simp length-take (omega arith) }

pub returns : goal.returns
unfolding of_bits
returns c =
    let g = c.args in
    let s = g.store.now in
    let n = g.bench.n in
    let nn = n * n in
    let p = nn + n in
    let q = p + n in
    let h = c.requires.n_in_bounds in
    let la = c.lay_out.auto.square ∙ length-take-le nn s (omega arith) in
    let lq = ap length c.take_rhs.ensures ∙ transformed_long n _ in
    record {
      store_after = store_laid n s c.lay_out.new.square c.take_rhs.new.qtb h la lq _ (p - nn) (q + 2 * n - q) (omega arith) (omega arith) c.fill.ensures
          ∙ rw (c.lay_out.ensures, c.take_rhs.ensures);
      n_len = sym (ap length c.lay_out.ensures) ∙ la;
    }
