-- Numbers of words: what is computed in the inner word and kept by an outer word.
use Rattle.std.proofs.Common.{◌≡◌, ℕ, ◌+◌, ◌-◌, ◌*◌, ◌%◌, ◌^◌, ◌<◌, Bool, true, false, ap, ◌∙◌, arith}
use Rattle.std.proofs.Math.Nat.{add-mul-mod_self_right, mod-eq_of_lt}
use Rattle.std.proofs.Math.Pow.{mod-mod-pow}
use Rattle.cg_base.specs.declared.kind.Word.{Word}
use Rattle.cg_base.specs.declared.kind.Word.TheVariants.{U8, U16, U32, U64}
use Rattle.cg_base.specs.Words.{bits}
use Rattle.cg_cmachine_def.specs.Operations.{flag}
use Rattle.cg_cgen_def.specs.Code.{inner}

-- the bits of a word are among those of its inner word
pub kept : (w : Word) (n : ℕ) → n % 2 ^ bits (inner w) % 2 ^ bits w ≡ n % 2 ^ bits w
kept U8 n = mod-mod-pow n 24 8
kept U16 n = mod-mod-pow n 16 16
kept U32 n = mod-mod-pow n 0 32
kept U64 n = mod-mod-pow n 0 64

pub bits_kept : (w : Word) (n : ℕ) → n < bits w → n < bits (inner w)
bits_kept U8 n h = omega arith
bits_kept U16 n h = omega arith
bits_kept U32 n h = h
bits_kept U64 n h = h

-- a number of a word, cast to the inner word
pub cast : (w : Word) (n : ℕ) → n < 2 ^ bits w → n % 2 ^ bits (inner w) ≡ n
cast U8 n h = mod-eq_of_lt (omega arith)
cast U16 n h = mod-eq_of_lt (omega arith)
cast U32 n h = mod-eq_of_lt h
cast U64 n h = mod-eq_of_lt h

-- a number of a word is kept whole
pub whole : (w : Word) (n : ℕ) → n < 2 ^ bits w → n % 2 ^ bits (inner w) % 2 ^ bits w ≡ n
whole w n h = kept w n ∙ mod-eq_of_lt h

-- and a number below 2^8 by U8, whatever word it was computed for
pub small : (w : Word) (n : ℕ) → n < 2 ^ 8 → n % 2 ^ bits (inner w) % 2 ^ bits U8 ≡ n
small U8 n h = whole U8 n h
small U16 n h = whole U8 n h
small U32 n h = whole U8 n h
small U64 n h = mod-mod-pow n 56 8 ∙ mod-eq_of_lt h

pub flag_is_small : (b : Bool) → flag b < 2
flag_is_small true = omega arith
flag_is_small false = omega arith

-- how many bits a word has is one of its numbers, and so are 0 and 1
pub width_fits : (w : Word) → bits w < 2 ^ bits w
width_fits U8 = omega arith
width_fits U16 = omega arith
width_fits U32 = omega arith
width_fits U64 = omega arith

pub bit_fits : (w : Word) (n : ℕ) → n < 2 → n < 2 ^ bits w
bit_fits U8 n h = omega arith
bit_fits U16 n h = omega arith
bit_fits U32 n h = omega arith
bit_fits U64 n h = omega arith

-- ---- differences and complements, where the inner word has c times as many numbers more

kept_more : (m c x y : ℕ) → y ≡ x + c * m → y % m ≡ x % m
kept_more m c x y e = ap (λ z. z % m) e ∙ add-mul-mod_self_right x c m

pub difference : (w : Word) (a b : ℕ) → b < 2 ^ bits w → ((a + 2 ^ bits (inner w)) - b) % 2 ^ bits (inner w) % 2 ^ bits w ≡ (a + (2 ^ bits w - b)) % 2 ^ bits w
difference U8 a b h = kept U8 _ ∙ kept_more (2 ^ 8) 16777215 (a + (2 ^ 8 - b)) ((a + 2 ^ 32) - b) (omega arith)
difference U16 a b h = kept U16 _ ∙ kept_more (2 ^ 16) 65535 (a + (2 ^ 16 - b)) ((a + 2 ^ 32) - b) (omega arith)
difference U32 a b h = kept U32 _ ∙ kept_more (2 ^ 32) 0 (a + (2 ^ 32 - b)) ((a + 2 ^ 32) - b) (omega arith)
difference U64 a b h = kept U64 _ ∙ kept_more (2 ^ 64) 0 (a + (2 ^ 64 - b)) ((a + 2 ^ 64) - b) (omega arith)

turned : (m c a k : ℕ) → a < m → k ≡ ((m - 1) - a) + c * m → k % m ≡ (m - 1) - a
turned m c a k h e = kept_more m c ((m - 1) - a) k e ∙ mod-eq_of_lt (omega arith)

pub complement_kept : (w : Word) (a : ℕ) → a < 2 ^ bits w → ((2 ^ bits (inner w) - 1) - a) % 2 ^ bits w ≡ (2 ^ bits w - 1) - a
complement_kept U8 a h = turned (2 ^ 8) 16777215 a ((2 ^ 32 - 1) - a) h (omega arith)
complement_kept U16 a h = turned (2 ^ 16) 65535 a ((2 ^ 32 - 1) - a) h (omega arith)
complement_kept U32 a h = turned (2 ^ 32) 0 a ((2 ^ 32 - 1) - a) h (omega arith)
complement_kept U64 a h = turned (2 ^ 64) 0 a ((2 ^ 64 - 1) - a) h (omega arith)
