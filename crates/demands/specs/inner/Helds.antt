-- The held calls: what the laws of a call ask. No statement of a demand cites it.
use Rattle.std.specs.Prelude.{Bool, true, false}
use Rattle.demands.specs.Calls.{StoreCall, zero_solve, damped_solve, held_solve, held_product, gradient, above, jx_norm, scaling, determined, non_singular}
use Rattle.demands.specs.History.{Call, base, search}

abbrev pub is_store_held : StoreCall → Bool
is_store_held (zero_solve out) = false
is_store_held (damped_solve diag out) = false
is_store_held (held_solve rhs out) = true
is_store_held (held_product out) = true
is_store_held (gradient bnorm) = false
is_store_held (above bnorm limit) = false
is_store_held (jx_norm x) = false
is_store_held (scaling md diag x bound) = false
is_store_held determined = false
is_store_held non_singular = false

abbrev pub is_held : Call → Bool
is_held (base c) = is_store_held c
is_held (search diag radius lambda out) = false
