-- What the solves of `factor` in pivot order leave and answer where their tests are passed, as its contracts say. Assumes nothing.
use mathlib.Core.Path.{◌≡◌, sym, ap, ◌∙◌}
use mathlib.Core.Bool.{Bool, true}
use mathlib.Core.List.{List}
use Prim.Native.Nat.{ℕ, ◌<◌, ◌≤◌, min}
use native.Mathlib.Nat.{le_refl}
use native.Mathlib.Omega.{arith}
use lib.ListN.{length, get_or, take}
use lib.Seq.{take_all, length-take-le}
use lib.Ieee.{Float}
use Rattle.std.specs.Prelude.{Result, Ok, is_ok}
use Rattle.leaves.specs.Reply.{Reply, answered, reply_of}
use Rattle.leaves.specs.declared.reply.Refusal.{Refusal}
use Rattle.leaves.proofs.Replies.{reply_of-ok}
use Rattle.leaves.specs.Root.{root_s}
use Rattle.leaves.specs.Vector.{scale_all}
use Rattle.leaves.specs.Product.{product_all}
use Rattle.factor.specs.Room.{load, lay, emptied}
use Rattle.leaves.specs.Square.{zeros}
use Rattle.factor.specs.Tests.{is_permutation, tested}
use Rattle.factor.specs.Solve.{zero_solved, scatter, gather, non_singular_of}
use Rattle.eliminate.specs.Eliminate.{Rows, damping, heads, tails}
use Rattle.factor.specs.Held.{mul_upper, held_solved, held_product_of}
use Rattle.factor.specs.Outcome.{written, Read, read, Left, left_in}
use Rattle.factor.specs.Solves as solves
use Rattle.factor.specs.PivotOrder.{lowered, zero_in, damped_in, held_zero_in, held_damped_in, product_in, full_rank, empty_in}
use Rattle.factor.specs.declared.state.State.{State}
use Rattle.factor.specs.declared.state.Held.{Held}
use Rattle.factor.specs.declared.state.Held.TheVariants as held
use Rattle.factor.proofs.Passed.{Ordered, solve_passed, passed_sized}
use Rattle.factor.proofs.Copied.{tests_passed}
use Rattle.factor.proofs.Lends.{written_whole}
use Rattle.factor.proofs.Orders.{permutation-below}
use Rattle.factor.proofs.Solves.{gather-length}
use Rattle.factor.proofs.Layouts.{load_shaped}
use Rattle.factor.proofs.PivotOrders.{zero_in_passed, damped_in_passed, held_zero_in_passed, held_damped_in_passed, product_in_passed, full_rank_passed, empty_in_passed}
use Rattle.search.specs.Problem.{placed, undamped_step, damped_rows, damped_step, scaled_step}
use Rattle.search.specs.Bounds.{quotients}
use Rattle.search.specs.Measured.{gradient_by}
use Rattle.search.specs.declared.lent.TrustRegion.{TrustRegion}
use Rattle.search.specs.inner.Read.{Ready, turned_by}
use Rattle.search.specs.inner.Asked.{asked, room, held_by}
use Rattle.search.proofs.Lists.{by_scaling_lem}
use Rattle.search.proofs.Shapes.{zero-length, damped-length, upper-length, lower-length, mul-length, gathered_even, Even, placed-scaled}
use Rattle.leaves.proofs.Insides.{Inside, one_row}
use Rattle.factor.specs.inner.Rooms.{Sized, Shaped}

-- a working that answers: it is not refused
answers : (r : Result (Unit {0}) Refusal) → reply_of r ≡ answered tt → is_ok r ≡ true
answers r e = ap is_ok (reply_of-ok r e)

read_answers : (r : Result (Unit {0}) Refusal) {x : Read} {w xs : List Float} → read (reply_of r) w ≡ x → x ≡ read (answered tt) xs → is_ok r ≡ true
read_answers r h p = answers r (ap (λ (x : Read). x.reply) (h ∙ p))

module _ (st : State) (store : List Float) (order : List ℕ) (e : Ready st store order) where
  ordered : Ordered st (length store) order st.n
  ordered = solve_passed st (length store) order st.n e

  pub few : st.n ≤ 16
  few = ordered.room.sizes.cols_few

  pub sized : Sized st.n store
  sized = passed_sized st store st.n ordered.room

  pub shaped : Shaped st.n (load st.n store)
  shaped = load_shaped st.n store sized

  pub order_long : st.n ≤ length order
  order_long = ordered.order_long

  pub order_below : (k : ℕ) → k < st.n → get_or order k 0 < st.n
  order_below = permutation-below st.n order ordered.permuted order_long

  pub permuted : is_permutation st.n order ≡ true
  permuted = ordered.permuted

  inside : Inside st.m st.n
  inside = ordered.room.sizes

  -- the workings' tests, with m among their sizes and without
  whole_tests : (k : ℕ) → st.n ≤ k → tested st.m st.n store k ≡ 0
  whole_tests k h = tests_passed st.m st.n store k inside sized h

  tests_at : (k : ℕ) → st.n ≤ k → tested 1 st.n store k ≡ 0
  tests_at k h = tests_passed 1 st.n store k (one_row inside) sized h

-- ---- of what a search works on
module _ (t : TrustRegion) where
  abbrev n : ℕ
  n = t.st.n

  abbrev store : List Float
  store = t.store.now

  abbrev order : List ℕ
  order = t.order.places.now

  pub few_columns : n ≤ 16
  few_columns = few t.st store order t.ready

  pub room_shaped : Shaped n (room t)
  room_shaped = shaped t.st store order t.ready

  pub long : n ≤ length order
  long = order_long t.st store order t.ready

  whole : (k : ℕ) → n ≤ k → tested t.st.m n store k ≡ 0
  whole = whole_tests t.st store order t.ready

  part : (k : ℕ) → n ≤ k → tested 1 n store k ≡ 0
  part = tests_at t.st store order t.ready

  -- ---- the calls that write w and read the store
  module _ (w : List Float) (wl : length w ≡ n) where
    out_is : (xs : List Float) {a : Reply (Unit {0})} {w' : List Float} → length xs ≡ n → read a w' ≡ read (answered tt) (written xs w) → w' ≡ xs
    out_is xs l h = ap (λ (x : Read). x.out) h ∙ written_whole xs w (l ∙ sym wl)

    front_is : take n w ≡ w
    front_is = take_all n w (omega arith)

    pub zero-answers : (r : Result (Unit {0}) Refusal) {w' : List Float} → read (reply_of r) w' ≡ zero_in t.st.m n store w → is_ok r ≡ true
    zero-answers r h = read_answers r h (zero_in_passed t.st.m n store w (whole (length w) (omega arith)))

    zero_numbers : {a : Reply (Unit {0})} {w' : List Float} → read a w' ≡ zero_in t.st.m n store w → w' ≡ zero_solved t.st.m (room t).upper (room t).qtb
    zero_numbers h =
        let z = room_shaped in
        out_is _ (zero-length t.st.m (room t).upper (room t).qtb (z.upper_wide ∙ sym z.qtb_long) ∙ z.qtb_long) (h ∙ zero_in_passed t.st.m n store w (whole (length w) (omega arith)))

    pub undamped-placed : {a : Reply (Unit {0})} {w' : List Float} → read a w' ≡ zero_in t.st.m n store w → placed (asked t) w' ≡ undamped_step (asked t)
    unfolding undamped_step
    undamped-placed h = ap (placed (asked t)) (zero_numbers h)

    pub held_zero-answers : (r : Result (Unit {0}) Refusal) {w' : List Float} → read (reply_of r) w' ≡ held_zero_in n store w → is_ok r ≡ true
    held_zero-answers r h = read_answers r h (held_zero_in_passed n store w (part (length w) (omega arith)))

    pub held_zero-numbers : {a : Reply (Unit {0})} {w' : List Float} → read a w' ≡ held_zero_in n store w → w' ≡ held_solved held.Zero w (room t)
    unfolding held_solved
    held_zero-numbers h =
        out_is _ (rw front_is (upper-length (room t).upper w (room_shaped.upper_wide ∙ sym wl) ∙ wl)) (h ∙ held_zero_in_passed n store w (part (length w) (omega arith)))
        ∙ ap (λ (x : List Float). held_solved held.Zero x (room t)) front_is

    pub held_damped-answers : (r : Result (Unit {0}) Refusal) {w' : List Float} → read (reply_of r) w' ≡ held_damped_in n store w → is_ok r ≡ true
    held_damped-answers r h = read_answers r h (held_damped_in_passed n store w (part (length w) (omega arith)))

    pub held_damped-numbers : {a : Reply (Unit {0})} {w' : List Float} → read a w' ≡ held_damped_in n store w → w' ≡ held_solved held.Damped w (room t)
    unfolding held_solved
    held_damped-numbers h =
        let z = room_shaped in
        out_is _ (rw front_is (lower-length (room t).ldiag (room t).below w (z.ldiag_long ∙ sym wl) (z.below_wide ∙ sym wl) ∙ wl)) (h ∙ held_damped_in_passed n store w (part (length w) (omega arith)))
        ∙ ap (λ (x : List Float). held_solved held.Damped x (room t)) front_is

    pub product-answers : (r : Result (Unit {0}) Refusal) {w' : List Float} → read (reply_of r) w' ≡ product_in n store w → is_ok r ≡ true
    product-answers r h = read_answers r h (product_in_passed n store w (part (length w) (omega arith)))

    product-numbers : {a : Reply (Unit {0})} {w' : List Float} → read a w' ≡ product_in n store w → w' ≡ mul_upper (room t).qtb (room t).upper
    unfolding held_product_of
    product-numbers h = out_is _ (mul-length (room t).qtb (room t).upper ∙ room_shaped.upper_wide) (h ∙ product_in_passed n store w (part (length w) (omega arith)))

    -- whose quotients gnorm is the norm of
    pub gradient_is : {a : Reply (Unit {0})} {w' w'' : List Float} → read a w' ≡ product_in n store w → w'' ≡ quotients w' (gather (take t.order.n order) t.diag.now) → w'' ≡ gradient_by (asked t)
    unfolding gradient_by
    gradient_is {w' = w'} h b =
        b ∙ ap (λ (j : ℕ). quotients w' (gather (take j order) t.diag.now)) t.order_n
        ∙ rw (take_all n t.diag.now (omega (arith, t.diag_len))) (ap (λ (z : List Float). quotients z (gather (take n order) t.diag.now)) (product-numbers h))

  -- the scaled step, placed from numbers in pivot order
  pub scaled-placed : (v w' : List Float) {v' : List Float} → length v ≡ n → length w' ≡ n
      → v' ≡ scatter (take t.order.n order) (product_all w' (gather (take t.order.n order) t.diag.now)) v → v' ≡ scaled_step (asked t) (placed (asked t) w')
  unfolding placed
  scaled-placed v w' vl l h =
      by_scaling_lem n (scatter (take n order) w' (zeros (length w'))) t.diag.now t.diag_len
      (h ∙ ap (λ (k : ℕ). scatter (take k order) (product_all w' (gather (take k order) t.diag.now)) v) t.order_n
      ∙ placed-scaled n order w' t.diag.now v (permuted t.st store order t.ready) long l t.diag_len vl)

  -- what the held solve makes of the scaled step
  pub held_is : (h : Held) (s : Float) (w' : List Float) {w'' : List Float} → w' ≡ gather (take t.order.n order) (turned_by s t.v.now t.diag.now) → w'' ≡ held_solved h w' (room t) → w'' ≡ held_by h t s
  held_is h s w' a b = b ∙ ap (λ (z : List Float). held_solved h z (room t)) (a ∙ ap (λ (j : ℕ). gather (take j order) (turned_by s t.v.now t.diag.now)) t.order_n)

  -- ---- the damped solve
  module _ (lambda : Float) where
    abbrev by_place : List Float
    by_place = gather (take n order) (scale_all (root_s lambda) t.diag.now)

    abbrev given : Rows
    given = damping by_place (room t).upper (room t).qtb

    place_long : length by_place ≡ n
    place_long = gather-length (take n order) (scale_all (root_s lambda) t.diag.now) ∙ length-take-le n order long

    rows_are : given ≡ damped_rows (asked t) lambda
    unfolding damped_rows
    rows_are = rw (take_all n t.diag.now (omega (arith, t.diag_len)))

    pub rows_even : Even n (damped_rows (asked t) lambda)
    rows_even = rw (← rows_are) (gathered_even n order (scale_all (root_s lambda) t.diag.now) (room t) room_shaped long)

    -- the diagonal in pivot order
    module _ (ds w : List Float) {q : Float} (es : ds ≡ gather (take t.order.n order) (scale_all q t.diag.now)) (qs : q ≡ root_s lambda) (wl : length w ≡ n) where
      ds_is : ds ≡ by_place
      ds_is = es ∙ ap (λ (j : ℕ). gather (take j order) (scale_all q t.diag.now)) t.order_n ∙ ap (λ (x : Float). gather (take n order) (scale_all x t.diag.now)) qs

      ds_long : length ds ≡ n
      ds_long = rw ds_is place_long

      worked_by : damping (take n ds) (room t).upper (room t).qtb ≡ damped_rows (asked t) lambda
      worked_by = ap (λ (x : List Float). damping x (room t).upper (room t).qtb) (take_all n ds (omega (arith, ds_long)) ∙ ds_is) ∙ rows_are

      damped-worked : damped_in n ds store w ≡ left_in (answered tt) (lay (lowered (damped_rows (asked t) lambda) (room t))) (written (solves.damped_numbers (damped_rows (asked t) lambda)) w)
      damped-worked =
          damped_in_passed n ds store w (part (min (length ds) (length w)) (omega (arith, ds_long)))
          ∙ ap (λ (x : Rows). left_in (answered tt) (lay (lowered x (room t))) (written (solves.damped_numbers x) w)) worked_by

      pub damped-answers : (r : Result (Unit {0}) Refusal) {s' w' : List Float} → left_in (reply_of r) s' w' ≡ damped_in n ds store w → is_ok r ≡ true
      damped-answers r h = answers r (ap (λ (x : Left). x.reply) (h ∙ damped-worked))

      module _ {a : Reply (Unit {0})} {s' w' : List Float} (h : left_in a s' w' ≡ damped_in n ds store w) where
        pub damped-store : s' ≡ lay (lowered (damped_rows (asked t) lambda) (room t))
        damped-store = ap (λ (x : Left). x.store) (h ∙ damped-worked)

        pub damped-placed : placed (asked t) w' ≡ damped_step (asked t) lambda
        unfolding damped_step
        damped-placed =
            let d = damped_rows (asked t) lambda in
            ap (placed (asked t)) (ap (λ (x : Left). x.out) (h ∙ damped-worked)
            ∙ written_whole (solves.damped_numbers d) w (damped-length (heads d.0) (tails d.0) d.1 ∙ rows_even.1 ∙ sym wl))

  -- ---- the rank, and the room that a search leaves
  pub rank-told : (r : Result Bool Refusal) → reply_of r ≡ full_rank t.st.m n store → r ≡ Ok (non_singular_of t.st.m n (room t).upper)
  rank-told r h = reply_of-ok r (h ∙ full_rank_passed t.st.m n store (whole n (le_refl n)))

  pub empty-answers : (r : Result (Unit {0}) Refusal) {s' : List Float} → read (reply_of r) s' ≡ empty_in n store → is_ok r ≡ true
  empty-answers r h = read_answers r h (empty_in_passed n store (part n (le_refl n)))

  pub empty-store : {a : Reply (Unit {0})} {s' : List Float} → read a s' ≡ empty_in n store → s' ≡ lay (emptied (room t))
  empty-store h = ap (λ (x : Read). x.out) (h ∙ empty_in_passed n store (part n (le_refl n)))
