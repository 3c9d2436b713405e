use mathlib.Core.Path.{refl}
use Rattle.leaves.specs.Tests.{first_of}
use Rattle.factor.proofs.cholesky.lower_held.Goals as goal

pub returns-in-Zero : goal.returns-in-Zero
unfolding first_of
returns-in-Zero c = rw c.in-Zero.is (record { failed = refl; value = refl })

pub returns-in-Damped : goal.returns-in-Damped
unfolding first_of
returns-in-Damped c = rw c.in-Damped.is (record { failed = refl; value = refl })

pub returns-in-Empty : goal.returns-in-Empty
unfolding first_of
returns-in-Empty c = rw c.in-Empty.is (record { failed = refl; value = tt })

pub returns-in-Nothing : goal.returns-in-Nothing
unfolding first_of
returns-in-Nothing c = rw c.in-Nothing.is (record { failed = refl; value = tt })
