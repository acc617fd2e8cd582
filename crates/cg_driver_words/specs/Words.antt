-- The commands, and the words that call for them (docs/LANGUAGE.md, "Commands").
use Rattle.std.specs.Prelude.{ℕ, ◌^◌, ◌≤◌, ⊤, Bool, true, false, ◌==◌, ◌&&◌, nat_le, not, List, [], ◌∷◌, map, length, String, string_bytes, Option, Some, None, option_map, option_and_then, codes, if◌then◌else◌}
use Rattle.std.specs.declared.alloc.Global.{Global}
use Rattle.std.specs.List.{list_all}
use Rattle.std.specs.Str.{bytes_eq}
use Rattle.cg_base.specs.Bytes.{digit}
use Rattle.cg_base.specs.Numbers.{literal_of}

-- the words as their bytes
abbrev pub texts : List (String Global) → List (List ℕ)
texts words = map string_bytes words

-- a command: `check` of a file; `build` of a file, into a C file and a certificate; `recheck` of a file and a certificate; `run` of a file, an entry
-- and a heap file, with the number of steps at most; `gen` of so many functions
pub data Command : Type 0 where
  check : List ℕ → Command
  build : List ℕ → List ℕ → List ℕ → Command
  recheck : List ℕ → List ℕ → Command
  run : List ℕ → List ℕ → List ℕ → ℕ → Command
  gen : ℕ → Command

-- the steps where none are asked for
abbrev pub default_steps : ℕ
default_steps = 10000000

-- a word that begins with - and isn't - alone
abbrev pub is_option : List ℕ → Bool
is_option [] = false
is_option (b ∷ []) = false
is_option (b ∷ c ∷ bytes) = b == 45

-- what stands behind a text, where a word begins with it
abbrev pub past : List ℕ → List ℕ → Option (List ℕ)
past [] word = Some word
past (t ∷ text) [] = None
past (t ∷ text) (b ∷ word) = if t == b then past text word else None

-- the word is `--steps`, of a command that has steps
abbrev pub asks : Bool → List ℕ → Bool
asks has_steps word = has_steps && bytes_eq word (codes "--steps")

-- the value in a word `--steps=N`, of a command that has steps
abbrev pub attached : Bool → List ℕ → Option (List ℕ)
attached has_steps word = if has_steps then past (codes "--steps=") word else None

-- names, and values of `--steps`, in their order
pub record Sorted : Type 0 where
  pub names : List (List ℕ)
  pub values : List (List ℕ)

abbrev pub all_names : List (List ℕ) → Sorted
all_names words = record { names = words; values = [] }

abbrev pub with_name : List ℕ → Sorted → Sorted
with_name word s = record { names = word ∷ s.names; values = s.values }

abbrev pub with_value : List ℕ → Sorted → Sorted
with_value word s = record { names = s.names; values = word ∷ s.values }

-- the words behind a command's name: has the command steps, and was the word before them `--steps`? A word `--` ends the options
abbrev pub sorted : Bool → Bool → List (List ℕ) → Option Sorted
sorted has_steps true [] = None
sorted has_steps true (word ∷ rest) = if is_option word then None else option_map (with_value word) (sorted has_steps false rest)
sorted has_steps false [] = Some (all_names [])
sorted has_steps false (word ∷ rest) =
    if bytes_eq word (codes "--") then Some (all_names rest)
    else if asks has_steps word then sorted has_steps true rest
    else if is_option word then option_and_then (λ v. option_map (with_value v) (sorted has_steps false rest)) (attached has_steps word)
    else option_map (with_name word) (sorted has_steps false rest)

-- a number from 1 to the greatest that may be asked for
abbrev pub in_range : ℕ → Option ℕ → Option ℕ
in_range most None = None
in_range most (Some n) = if nat_le 1 n && nat_le n most then Some n else None

-- the number that a word says: one to twenty digits, in range
abbrev pub number_in : ℕ → List ℕ → Option ℕ
number_in most [] = None
number_in most (b ∷ bytes) = if nat_le (length (b ∷ bytes)) 20 && list_all digit (b ∷ bytes) then in_range most (literal_of (b ∷ bytes)) else None

-- the greatest number of steps, and of functions that `gen` makes
abbrev pub most_steps : ℕ
most_steps = 2 ^ 40

abbrev pub most_made : ℕ
most_made = 4096

abbrev pub steps_in : List ℕ → Option ℕ
steps_in word = number_in most_steps word

-- `check FILE`
abbrev pub check_names : List (List ℕ) → List (List ℕ) → Option Command
check_names (file ∷ []) [] = Some (check file)
check_names _ _ = None

-- no two of three names are one
abbrev pub are_apart : List ℕ → List ℕ → List ℕ → Bool
are_apart a b c = not (bytes_eq a b) && (not (bytes_eq a c) && not (bytes_eq b c))

-- `build FILE CFILE CERTFILE`, of three names that are apart
abbrev pub build_apart : List ℕ → List ℕ → List ℕ → Option Command
build_apart file text certificate = if are_apart file text certificate then Some (build file text certificate) else None

abbrev pub build_names : List (List ℕ) → List (List ℕ) → Option Command
build_names (file ∷ text ∷ certificate ∷ []) [] = build_apart file text certificate
build_names _ _ = None

-- `recheck FILE CERTFILE`
abbrev pub recheck_names : List (List ℕ) → List (List ℕ) → Option Command
recheck_names (file ∷ certificate ∷ []) [] = Some (recheck file certificate)
recheck_names _ _ = None

-- `run FILE ENTRY HEAPFILE [--steps N]`
abbrev pub run_names : List (List ℕ) → List (List ℕ) → Option Command
run_names (file ∷ entry ∷ heap ∷ []) [] = Some (run file entry heap default_steps)
run_names (file ∷ entry ∷ heap ∷ []) (steps ∷ []) = option_map (run file entry heap) (steps_in steps)
run_names _ _ = None

-- `gen N`
abbrev pub gen_names : List (List ℕ) → List (List ℕ) → Option Command
gen_names (number ∷ []) [] = option_map gen (number_in most_made number)
gen_names _ _ = None

-- the command that sorted words are, by their names and values; words that are out of order are none
abbrev pub called : (List (List ℕ) → List (List ℕ) → Option Command) → Option Sorted → Option Command
called command None = None
called command (Some s) = command s.names s.values

-- the command that words call for; all other lists of words are refused
abbrev pub command_of : List (List ℕ) → Option Command
command_of [] = None
command_of (word ∷ rest) =
    if bytes_eq (codes "check") word then called check_names (sorted false false rest)
    else if bytes_eq (codes "build") word then called build_names (sorted false false rest)
    else if bytes_eq (codes "recheck") word then called recheck_names (sorted false false rest)
    else if bytes_eq (codes "run") word then called run_names (sorted true false rest)
    else if bytes_eq (codes "gen") word then called gen_names (sorted false false rest)
    else None

-- no more steps than 2^40, and from 1 to 4,096 functions
abbrev pub IsInRange : Option Command → Type 0
IsInRange None = ⊤
IsInRange (Some (check file)) = ⊤
IsInRange (Some (build file text certificate)) = ⊤
IsInRange (Some (recheck file certificate)) = ⊤
IsInRange (Some (run file entry heap steps)) = steps ≤ 2 ^ 40
IsInRange (Some (gen number)) = (1 ≤ number) × (number ≤ 4096)
