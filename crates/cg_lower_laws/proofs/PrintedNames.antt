-- The names that lowering makes are names of C, so that its types and paths can be printed.
use Rattle.std.proofs.Common.{◌≡◌, ℕ, zero, suc, ◌+◌, ◌/◌, ◌%◌, ◌^◌, ◌<◌, ◌≤◌, ◌==◌, ◌||◌, ◌&&◌, Bool, true, false, cond, List, [], ◌∷◌, ◌++◌, map, decimal, bytes_eq, refl, arith, ne_eqb, lt-ltb}
use Rattle.std.specs.Prelude.{codes}
use Rattle.std.specs.Fmt.{digit_glyph, digits_onto, digits}
use Rattle.std.specs.List.{AllByRecursion, list_all}
use Rattle.std.proofs.lemmas.Bool.Decides.{nat_tests}
use Rattle.cg_base.specs.Bytes.{digit, Each}
use Rattle.cg_base.specs.declared.kind.Sigil.TheVariants.{R, W, U}
use Rattle.cg_base.specs.declared.kind.Word.{Word}
use Rattle.cg_base.specs.declared.kind.Word.TheVariants.{U8, U16, U32, U64}
use Rattle.cg_base.specs.Types.{Tau, var, seen, unit, word, bool, arrow, abs, variant, fields, Taus}
use Rattle.cg_cmachine_def.specs.BuiltIns.{array_call, width_text}
use Rattle.cg_ctree.specs.Spells.{IsCName, IsPrintableOpnd, IsPrintablePath, IsPrintableType}
use Rattle.cg_ctree.specs.Tokens.{is_word, letter, part_of_name}
use Rattle.cg_cgen_def.specs.Names.{name, tag_name}
use Rattle.cg_lower_def.specs.CTypes.{abstract_struct, c_type, element}
use Rattle.cg_cgen_def.specs.Places.{Base, argument, local, Place, number, held, Step, field, tag, payload, arrow_path, at, base_name, operand, path, step_name}
use Rattle.cg_base.proofs.Counts.{one_digit as is_digit}

-- ---- digits

digit_goes_on : (b : ℕ) → digit b ≡ true → part_of_name b ≡ true
digit_goes_on b h = rw h (by_test (letter b))
  where
    by_test : (c : Bool) → (c || true) ≡ true
    by_test true = refl
    by_test false = refl

-- a digit is no letter
digit_is_low : (b : ℕ) → digit b ≡ true → b ≤ 57
digit_is_low b h = grind (arith, nat_tests)

-- one of two texts of digits
either : (b : Bool) (xs ys : List ℕ) → Each digit xs → Each digit ys → Each digit (cond b xs ys)
either true xs ys p q = p
either false xs ys p q = q

-- the last digit of a number
last_digit : (n : ℕ) → digit (digit_glyph false (n % 10)) ≡ true
last_digit n = let small : n % 10 < 10 = omega arith in rw (lt-ltb (n % 10) 10 small) (is_digit (n % 10) small)

-- a number has no more than 64 digits that are written, and nothing else
onto_digits : (k n : ℕ) (acc : List ℕ) → Each digit acc → Each digit (digits_onto k 10 false n acc)
onto_digits zero n acc h = h
onto_digits (suc k) n acc h = either (n / 10 == 0) _ _ (last_digit n, h) (onto_digits k (n / 10) _ (last_digit n, h))

-- so a number of any size is written with digits alone
decimal_digits : (n : ℕ) → Each digit (decimal n)
unfolding digits
decimal_digits n = onto_digits 64 n [] tt

-- digits may go on a name
go_on : (bytes : List ℕ) → Each digit bytes → Each part_of_name bytes
go_on [] h = tt
go_on (b ∷ bytes) h = (digit_goes_on b h.0, go_on bytes h.1)

-- ---- names of a letter and a number

-- no word of C is an s and then digits
no_word : (bytes : List ℕ) → Each digit bytes → is_word (115 ∷ bytes) ≡ false
no_word [] h = refl
no_word (b ∷ bytes) h =
    let low = digit_is_low b h.0 in
    rw (ne_eqb b 116 (λ e. omega arith), ne_eqb b 119 (λ e. omega arith), ne_eqb b 105 (λ e. omega arith)) refl

-- each letter that lowering begins a name with, and any number
pub argument_named : (k : ℕ) → IsCName (name 97 k)
argument_named k = (refl, (refl, go_on _ (decimal_digits k)), refl)

pub dispatch_named : (k : ℕ) → IsCName (name 100 k)
dispatch_named k = (refl, (refl, go_on _ (decimal_digits k)), refl)

pub function_named : (k : ℕ) → IsCName (name 102 k)
function_named k = (refl, (refl, go_on _ (decimal_digits k)), refl)

pub field_named : (k : ℕ) → IsCName (name 109 k)
field_named k = (refl, (refl, go_on _ (decimal_digits k)), refl)

pub struct_named : (k : ℕ) → IsCName (name 115 k)
struct_named k = (refl, (refl, go_on _ (decimal_digits k)), no_word _ (decimal_digits k))

pub local_named : (k : ℕ) → IsCName (name 120 k)
local_named k = (refl, (refl, go_on _ (decimal_digits k)), refl)

-- ---- other names

pub tag_named : IsCName tag_name
tag_named = (refl, (refl, tt), refl)

-- texts that are written out are names where tests of their bytes pass
each_from : (p : ℕ → Bool) (bytes : List ℕ) → list_all p bytes ≡ true → Each p bytes
each_from p [] h = tt
each_from p (b ∷ bytes) h = let e = and_parts (p b) (list_all p bytes) h in (e.0, each_from p bytes e.1)
  where
    and_parts : (a c : Bool) → (a && c) ≡ true → (a ≡ true) × (c ≡ true)
    and_parts true c e = (refl, e)
    and_parts false c e = absurd (cc)

-- the names of built-ins, and of the structs of abstract types
pub free_named : IsCName (codes "cg_free")
free_named = (refl, each_from part_of_name (codes "cg_free") refl, refl)

abstract_named : (x : List ℕ) (args : Taus) → IsCName (abstract_struct x args)
abstract_named x args = by_tests (bytes_eq x (codes "SysState")) (bytes_eq x (codes "WordArray")) (element args)
  where
    by_tests : (a b : Bool) (w : Word) → IsCName (cond a (codes "SysState") (cond b (codes "W" ++ width_text w) (codes "Foreign")))
    by_tests true b w = (refl, each_from part_of_name (codes "SysState") refl, refl)
    by_tests false false w = (refl, each_from part_of_name (codes "Foreign") refl, refl)
    by_tests false true U8 = (refl, each_from part_of_name (codes "W8") refl, refl)
    by_tests false true U16 = (refl, each_from part_of_name (codes "W16") refl, refl)
    by_tests false true U32 = (refl, each_from part_of_name (codes "W32") refl, refl)
    by_tests false true U64 = (refl, each_from part_of_name (codes "W64") refl, refl)

pub create_named : (w : Word) → IsCName (array_call w (codes "create"))
create_named U8 = (refl, each_from part_of_name (codes "cg_w8_create") refl, refl)
create_named U16 = (refl, each_from part_of_name (codes "cg_w16_create") refl, refl)
create_named U32 = (refl, each_from part_of_name (codes "cg_w32_create") refl, refl)
create_named U64 = (refl, each_from part_of_name (codes "cg_w64_create") refl, refl)

pub free_array_named : (w : Word) → IsCName (array_call w (codes "free"))
free_array_named U8 = (refl, each_from part_of_name (codes "cg_w8_free") refl, refl)
free_array_named U16 = (refl, each_from part_of_name (codes "cg_w16_free") refl, refl)
free_array_named U32 = (refl, each_from part_of_name (codes "cg_w32_free") refl, refl)
free_array_named U64 = (refl, each_from part_of_name (codes "cg_w64_free") refl, refl)

pub length_named : (w : Word) → IsCName (array_call w (codes "length"))
length_named U8 = (refl, each_from part_of_name (codes "cg_w8_length") refl, refl)
length_named U16 = (refl, each_from part_of_name (codes "cg_w16_length") refl, refl)
length_named U32 = (refl, each_from part_of_name (codes "cg_w32_length") refl, refl)
length_named U64 = (refl, each_from part_of_name (codes "cg_w64_length") refl, refl)

pub get_named : (w : Word) → IsCName (array_call w (codes "get"))
get_named U8 = (refl, each_from part_of_name (codes "cg_w8_get") refl, refl)
get_named U16 = (refl, each_from part_of_name (codes "cg_w16_get") refl, refl)
get_named U32 = (refl, each_from part_of_name (codes "cg_w32_get") refl, refl)
get_named U64 = (refl, each_from part_of_name (codes "cg_w64_get") refl, refl)

pub put_named : (w : Word) → IsCName (array_call w (codes "put"))
put_named U8 = (refl, each_from part_of_name (codes "cg_w8_put") refl, refl)
put_named U16 = (refl, each_from part_of_name (codes "cg_w16_put") refl, refl)
put_named U32 = (refl, each_from part_of_name (codes "cg_w32_put") refl, refl)
put_named U64 = (refl, each_from part_of_name (codes "cg_w64_put") refl, refl)

-- ---- types

-- a type as C has it can be printed
pub type_prints : (numbered : Tau → ℕ) (t : Tau) → IsPrintableType (c_type numbered t)
type_prints numbered (var n) = tt
type_prints numbered (seen n) = tt
type_prints numbered unit = tt
type_prints numbered (word w) = tt
type_prints numbered bool = tt
type_prints numbered (arrow a b) = tt
type_prints numbered (abs x args sigil) = abstract_named x args
type_prints numbered (variant ps) = struct_named _
type_prints numbered (fields ps U) = struct_named _
type_prints numbered (fields ps R) = struct_named _
type_prints numbered (fields ps W) = struct_named _

-- ---- parts of variables

-- variables, and parts of them
base_named : (b : Base) → IsCName (base_name b)
base_named argument = argument_named 0
base_named (local j) = local_named j

steps_named : (steps : List Step) → AllByRecursion IsCName (map step_name steps)
steps_named [] = tt
steps_named (field i ∷ steps) = (field_named i, steps_named steps)
steps_named (tag ∷ steps) = (tag_named, steps_named steps)
steps_named (payload i ∷ steps) = (argument_named i, steps_named steps)

-- the path to a part of a variable, and that to a field of the cell that a variable points to
pub path_prints : (b : Base) (steps : List Step) → IsPrintablePath (path b steps)
path_prints b steps = (base_named b, steps_named steps)

pub arrow_prints : (b : Base) (s : Step) → IsPrintablePath (arrow_path b (s ∷ []))
arrow_prints b s = (base_named b, steps_named (s ∷ []))

-- a number fits, and a part of a variable does always
abbrev pub FitsPlace : Place → Type 0
FitsPlace (number n) = n < 2 ^ 64
FitsPlace (held b steps) = Unit {0}

-- operands at places that fit
pub operand_prints : (v : Place) → FitsPlace v → IsPrintableOpnd (operand v)
operand_prints (number n) h = h
operand_prints (held b steps) h = path_prints b steps

pub operands_print : (vs : List Place) → AllByRecursion FitsPlace vs → AllByRecursion IsPrintableOpnd (map operand vs)
operands_print [] h = tt
operands_print (v ∷ vs) h = (operand_prints v h.0, operands_print vs h.1)

-- a part of what is kept at a place
pub at_fits : (s : Step) (v : Place) → FitsPlace v → FitsPlace (at s v)
at_fits s (number n) h = h
at_fits s (held b steps) h = tt
