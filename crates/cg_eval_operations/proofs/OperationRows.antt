-- Operators and the indices of iterators on small rows, computed.
use Rattle.std.proofs.Common.{◌≡◌, [], ◌∷◌, refl}
use Rattle.cg_base.specs.declared.fun.Lib.TheVariants.{Seq32}
use Rattle.cg_core.specs.declared.op.Op.TheVariants as ops
use Rattle.cg_eval_operations.specs.Iterators.{counted, indices, indices_from}
use Rattle.cg_eval_operations.specs.Operators.{on_one, on_two}
use Rattle.cg_value.specs.Forms.{field, number_in}
use Rattle.cg_value.specs.Values.{number, parts, to_vals, val_list}

sub_wraps : on_two ops.Sub 8 0 1 ≡ 255
sub_wraps = refl

shift_past : on_two ops.Shl 8 255 8 ≡ 0
shift_past = refl

shift_in : on_two ops.Shl 8 255 4 ≡ 240
shift_in = refl

by_zero : on_two ops.Rem 8 5 0 ≡ 0
by_zero = refl

turned : on_one ops.Complement 8 1 ≡ 254
turned = refl

in_steps : counted 9 2 9 3 ≡ 2 ∷ 5 ∷ 8 ∷ []
unfolding counted
in_steps = refl

no_step : indices Seq32 (parts (to_vals (number 0 ∷ number 5 ∷ number 0 ∷ []))) ≡ []
unfolding number_in field val_list to_vals indices_from
no_step = refl
