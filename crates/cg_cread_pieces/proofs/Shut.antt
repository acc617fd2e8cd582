-- What is shut ends nothing, and stays shut.
use Rattle.std.proofs.Common.{◌≡◌, ℕ, refl, ap, ◌∙◌, false, None}
use Rattle.cg_base.proofs.Spans.{either_way}
use Rattle.cg_cread_pieces.specs.Lines as lines
use Rattle.cg_cread_pieces.specs.Lines.{line_step, line_end, line_test, line_is_open, targeted, argued, tested, operand_line, assignment}
use Rattle.cg_cread_parts.specs.Operands.{operand_step, operand_end, path_end, operand_is_open}
use Rattle.cg_cread_pieces.specs.Rights as rights
use Rattle.cg_cread_pieces.specs.Rights.{operand_right, right_step, right_end, right_is_open}
use Rattle.cg_cread_parts.specs.Symbols.{Symbol, is_part}
use Rattle.cg_cread_pieces.specs.declared.line.Role.{Role}
use Rattle.cg_cread_pieces.specs.declared.line.Role.TheVariants as role
use Rattle.cg_cread_pieces.specs.declared.line.Line.{Line}
use Rattle.cg_cread_pieces.specs.declared.line.Line.TheVariants as line
use Rattle.cg_cread_parts.specs.declared.operand.Operand.{Operand}
use Rattle.cg_cread_parts.specs.declared.operand.Operand.TheVariants as operand
use Rattle.cg_cread_pieces.specs.declared.right.Slot.{Slot}
use Rattle.cg_cread_pieces.specs.declared.right.Slot.TheVariants as slot
use Rattle.cg_cread_pieces.specs.declared.right.Right.{Right}
use Rattle.cg_cread_pieces.specs.declared.right.Right.TheVariants as right
use Rattle.cg_cread_parts.proofs.Shut.{operand_none, operand_shut}

-- ---- right sides

operand_right_none : (s : Slot) → operand_right s None ≡ None
operand_right_none slot.Alone = refl
operand_right_none (slot.Converted w) = refl
operand_right_none _ = refl

right_none : (m : Right) → right_is_open m ≡ false → right_end m ≡ None
right_none (right.InOperand s m) h = ap (operand_right s) (operand_none m h) ∙ operand_right_none s
right_none right.Stuck h = refl
right_none _ h = cc

right_shut : (m : Right) (y : Symbol) → right_is_open m ≡ false → right_is_open (right_step m y) ≡ false
right_shut (right.InOperand s m) y h =
    either_way (λ z. right_is_open z ≡ false) (is_part y) (right.InOperand s (operand_step m y)) (rights.filled s (operand_end m) y)
    (λ e. operand_shut m y h)
    (λ e. ap (λ z. right_is_open (rights.filled s z y)) (operand_none m h))
right_shut right.Stuck y h = refl
right_shut _ y h = cc

-- ---- statements

number_shut : (n : ℕ) (y : Symbol) → operand_is_open (operand_step (operand.Number n) y) ≡ false
number_shut n y = refl

fits_shut : (s : Role) (m : Operand) (y : Symbol) → lines.fits s m ≡ false → lines.fits s (operand_step m y) ≡ false
fits_shut role.Target (operand.Number n) y h = refl
fits_shut role.Target operand.Stuck y h = refl
fits_shut role.Target _ y h = cc
fits_shut role.Returned m y h = operand_shut m y h
fits_shut (role.Argument f os) m y h = operand_shut m y h
fits_shut (role.Tested k) m y h = operand_shut m y h

path_none : (m : Operand) → lines.fits role.Target m ≡ false → path_end m ≡ None
path_none (operand.Number n) h = refl
path_none operand.Stuck h = refl
path_none _ h = cc

filled_shut : (s : Role) (m : Operand) (y : Symbol) → lines.fits s m ≡ false → line_is_open (lines.filled s m y) ≡ false
filled_shut role.Target m y h = ap (λ z. line_is_open (targeted z y)) (path_none m h)
filled_shut role.Returned m y h = refl
filled_shut (role.Argument f os) m y h = ap (λ z. line_is_open (argued f os z y)) (operand_none m h)
filled_shut (role.Tested k) m y h = ap (λ z. line_is_open (tested k z y)) (operand_none m h)

operand_line_none : (s : Role) (m : Operand) → lines.fits s m ≡ false → operand_line s (operand_end m) ≡ None
operand_line_none role.Returned m h = ap (operand_line role.Returned) (operand_none m h)
operand_line_none role.Target m h = refl
operand_line_none (role.Argument f os) m h = refl
operand_line_none (role.Tested k) m h = refl

pub line_none : (m : Line) → line_is_open m ≡ false → line_end m ≡ None
line_none (line.InOperand s m) h = operand_line_none s m h
line_none (line.Assigned p m) h = ap (assignment p) (right_none m h)
line_none line.Stuck h = refl
line_none _ h = cc

pub no_test : (m : Line) → line_is_open m ≡ false → line_test m ≡ None
no_test (line.InOperand s m) h = refl
no_test (line.Assigned p m) h = refl
no_test line.Stuck h = refl
no_test _ h = cc

pub line_shut : (m : Line) (y : Symbol) → line_is_open m ≡ false → line_is_open (line_step m y) ≡ false
line_shut (line.InOperand s m) y h =
    either_way (λ z. line_is_open z ≡ false) (is_part y) (line.InOperand s (operand_step m y)) (lines.filled s m y)
    (λ e. fits_shut s m y h)
    (λ e. filled_shut s m y h)
line_shut (line.Assigned p m) y h = right_shut m y h
line_shut line.Stuck y h = refl
line_shut _ y h = cc
