use Prim.Native.Nat.{◌*◌, ◌≤◌}
use mathlib.Core.Path.{sym, ap, ◌∙◌}
use native.Mathlib.Nat.{mul-le-mul, le_refl}
use native.Mathlib.Omega.{arith}
use borrow.Author.Rules.{rules}
use lib.ListN.{length, length-take, length-drop, length-append}
use Rattle.leaves.proofs.Insides.{inside, square_small}
use Rattle.frozen.proofs.Runs.{runs-length, narrow_n, narrow_free, narrow_wider, narrow-store, narrow_small, narrow_laid}
use Rattle.frozen.proofs.narrow.narrow.Goals as goal

pub returns-then-outside : goal.returns-then-outside
returns-then-outside c = narrow_n c.args.n c.args.free c.args.store.now c.args.small.now (sym c.outside.ensures ∙ c.if-outside.true)

pub returns-then-outside-2 : goal.returns-then-outside-2
returns-then-outside-2 c = narrow_free c.args.n c.args.free c.args.store.now c.args.small.now (sym c.outside.ensures ∙ c.if-outside.false) (sym c.outside-2.ensures ∙ c.if-outside-2.true)

pub returns-then-n-free : goal.returns-then-n-free
returns-then-n-free c = narrow_wider c.args.n c.args.free c.args.store.now c.args.small.now (sym c.outside.ensures ∙ c.if-outside.false) (sym c.outside-2.ensures ∙ c.if-outside-2.false) c.if-n-free.true

pub overflow_mul-n : goal.overflow_mul-n
overflow_mul-n c = let i = inside 1 _ (sym c.outside.ensures ∙ c.if-outside.false) in let q = square_small i in search rules

pub overflow_mul-n-2 : goal.overflow_mul-n-2
overflow_mul-n-2 c = let i = inside 1 _ (sym c.outside.ensures ∙ c.if-outside.false) in let q = square_small i in search rules

pub overflow_add-n : goal.overflow_add-n
overflow_add-n c = let i = inside 1 _ (sym c.outside.ensures ∙ c.if-outside.false) in let q = square_small i in search rules

pub returns-then-store-n : goal.returns-then-store-n
returns-then-store-n c = narrow-store c.args.n c.args.free c.args.store.now c.args.small.now (sym c.outside.ensures ∙ c.if-outside.false) (sym c.outside-2.ensures ∙ c.if-outside-2.false) c.if-n-free.false c.if-store-n.true

pub overflow_mul-p : goal.overflow_mul-p
overflow_mul-p c = let i = inside 1 _ (sym c.outside-2.ensures ∙ c.if-outside-2.false) in let q = square_small i in search rules

pub overflow_mul-e : goal.overflow_mul-e
overflow_mul-e c = let i = inside 1 _ (sym c.outside-2.ensures ∙ c.if-outside-2.false) in let q = square_small i in search rules

pub overflow_add-e : goal.overflow_add-e
overflow_add-e c = let i = inside 1 _ (sym c.outside-2.ensures ∙ c.if-outside-2.false) in let q = square_small i in search rules

pub returns-then-small-e : goal.returns-then-small-e
returns-then-small-e c = narrow_small c.args.n c.args.free c.args.store.now c.args.small.now (sym c.outside.ensures ∙ c.if-outside.false) (sym c.outside-2.ensures ∙ c.if-outside-2.false) c.if-n-free.false c.if-store-n.false c.if-small-e.true

pub slice_bounds-copy_runs-end-2 : goal.slice_bounds-copy_runs-end-2
slice_bounds-copy_runs-end-2 c = simp length-take (omega arith)

pub copy_runs-requires : goal.copy_runs-requires
copy_runs-requires c =
    let g = c.args in
    let w = c.if-n-free.false in
    let h : g.free * g.n ≤ g.n * g.n = mul-le-mul w (le_refl g.n) in
    record { w_le_apart = search rules; apart_in_bounds = search rules; dst_len = simp length-take (omega arith) }

pub copy_runs-requires-2 : goal.copy_runs-requires-2
copy_runs-requires-2 c =
    let g = c.args in
    let w = c.if-n-free.false in
    let h : g.free * g.n ≤ g.n * g.n = mul-le-mul w (le_refl g.n) in
    let y = ap length c.copy_runs.ensures ∙ runs-length g.free g.n g.free g.store.now w (search rules) in
    record { w_le_apart = search rules; apart_in_bounds = simp (length-take, length-drop) (omega arith); dst_len = simp (length-take, length-drop, length-append) (omega arith) }

pub returns : goal.returns
returns c =
    let g = c.args in
    narrow_laid
    g.n
    g.free
    g.store.now
    g.small.now
    (sym c.outside.ensures ∙ c.if-outside.false)
    (sym c.outside-2.ensures ∙ c.if-outside-2.false)
    c.if-n-free.false
    c.if-store-n.false
    _
    _
    c.if-small-e.false
    c.copy_runs.ensures
    c.copy_runs-2.ensures
