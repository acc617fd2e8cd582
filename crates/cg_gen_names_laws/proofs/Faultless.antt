-- No name of the program is at fault.
use Rattle.std.proofs.Common.{◌≡◌, ℕ, zero, suc, ◌+◌, ◌^◌, ◌<◌, ◌≤◌, ◌||◌, false, cond, List, [], ◌∷◌, ◌++◌, length, Option, codes, refl, ap, ◌∙◌, arith}
use Rattle.std.specs.Option.{option_map}
use Rattle.cg_base.specs.declared.place.Place.{Place}
use Rattle.cg_surface.specs.Programs.{Entry}
use Rattle.cg_surface.specs.Written as types
use Rattle.cg_resolve_def.specs.Declared.{Declared, OfProgram, function_named, is_among, library, looked_up}
use Rattle.cg_resolve_def.specs.Faults.{Before, NameFault, again, beforehand, bound, declared_with, entry_faults, expr_faults, faults_from, function_faults, mention_faults, program_faults, twice, type_faults, type_name_faults, unsigned, user_faults, vars_named}
use Rattle.cg_gen.specs.Generated.{name}
use Rattle.cg_gen_def.specs.Programs.{body_item, body_row, cell_item, place, subject_of, type_item, type_row, width}
use Rattle.cg_gen_names_laws.proofs.Body.{function_known}
use Rattle.cg_gen_names_laws.proofs.Known.{Known, its_type}
use Rattle.cg_gen_names_laws.proofs.Lists.{spread, two_items}
use Rattle.cg_gen_names_laws.proofs.Looks.{definition}
use Rattle.cg_gen_names_laws.proofs.Names.{apart, is_no_c, is_no_library, is_no_other}

-- ---- names behind so many functions

names_behind : ℕ → List (List ℕ) → List (List ℕ)
names_behind zero base = base
names_behind (suc i) base = name (i + 1) ∷ names_behind i base

abbrev behind : ℕ → Before
behind i = record { types = codes "Cell" ∷ beforehand.types; signatures = names_behind i beforehand.signatures; definitions = names_behind i [] }

one_behind : (i : ℕ) → declared_with (declared_with (behind i) (type_item i)) (body_item i) ≡ behind (suc i)
unfolding type_item body_item names_behind
one_behind i = refl

-- a later name is new
is_new : (i t : ℕ) (base : List (List ℕ)) → i < t → t < 10 ^ 64 → is_among base (name t) ≡ false → is_among (names_behind i base) (name t) ≡ false
unfolding names_behind
is_new zero t base later small new = new
is_new (suc i) t base later small new =
    ap (λ b. b || is_among (names_behind i base) (name t)) (apart t (i + 1) small (omega arith) (λ e. omega arith)) ∙ is_new i t base (omega arith) small new

not_again : (before : List (List ℕ)) (p : Place) (n : List ℕ) → is_among before n ≡ false → again before p n ≡ []
not_again before p n new = ap (λ b. cond b (twice p ∷ []) []) new

module _ (entries : List Entry) (n : ℕ) (known : Known entries n) where
  -- ---- the type of a function

  cell_stands : (p : Place) → type_faults entries [] (types.named p (codes "Cell") types.no_types) ≡ []
  cell_stands p = ap (λ (d : Option Declared). type_name_faults p 0 (option_map (λ x. length x.params) d) ++ []) known.cell

  type_stands : (i : ℕ) → type_faults entries [] (its_type i) ≡ []
  type_stands i j = cell_stands (place (type_row i) (width i + 4)) j ++ cell_stands (place (type_row i) (width i + 12)) j

  type_opened : (i : ℕ)
      → entry_faults entries (behind i) (type_item i) ≡ (again (behind i).signatures (place (type_row i) 1) (name (i + 1)) ++ []) ++ type_faults entries [] (its_type i)
  unfolding type_item
  type_opened i = refl

  type_faultless : (i : ℕ) → i < n → entry_faults entries (behind i) (type_item i) ≡ []
  type_faultless i lt =
      type_opened i
      ∙ ap (λ fs. (fs ++ []) ++ type_faults entries [] (its_type i))
      (not_again (behind i).signatures (place (type_row i) 1) (name (i + 1))
      (is_new i (i + 1) beforehand.signatures (omega arith) (omega (arith, known.small)) (is_no_other (i + 1) (omega (arith, known.small)))))
      ∙ type_stands i

  -- ---- its definition

  call_stands : (p : Place) (b : ℕ) → b < n → mention_faults entries (codes "c" ∷ []) p (name (suc b)) 0 ≡ []
  call_stands p b lt =
      ap (λ x. cond (x || false) [] (function_faults p 0 (looked_up library (name (suc b))) (function_named entries (name (suc b))))) (is_no_c (suc b))
      ∙ ap (λ l. function_faults p 0 l (function_named entries (name (suc b)))) (is_no_library (suc b) (omega (arith, known.small)))
      ∙ ap (user_faults p 0) (function_known entries n known b lt)

  subject_stands : (i : ℕ) → i < n → expr_faults entries [] (codes "c" ∷ []) (subject_of i) ≡ []
  unfolding subject_of
  subject_stands zero lt = refl
  subject_stands (suc b) lt = ap (λ fs. (fs ++ []) ++ []) (call_stands _ b (omega arith))

  body_opened : (i : ℕ) → expr_faults entries [] (bound (definition i).param) (definition i).body ≡ (expr_faults entries [] (codes "c" ∷ []) (subject_of i) ++ []) ++ []
  unfolding definition
  body_opened i = refl

  body_stands : (i : ℕ) → i < n → expr_faults entries [] (bound (definition i).param) (definition i).body ≡ []
  body_stands i lt = body_opened i ∙ ap (λ fs. (fs ++ []) ++ []) (subject_stands i lt)

  -- its faults, where this is found by its name
  abbrev faults_with : ℕ → Option OfProgram → List NameFault
  faults_with i f =
      (unsigned (place (body_row i) 1) f ++ again (behind i).definitions (place (body_row i) 1) (name (i + 1)) ++ [])
      ++ expr_faults entries (vars_named f) (bound (definition i).param) (definition i).body

  item_opened : (i : ℕ) → entry_faults entries (behind i) (body_item i) ≡ faults_with i (function_named entries (name (i + 1)))
  unfolding body_item definition
  item_opened i = refl

  item_faultless : (i : ℕ) → i < n → entry_faults entries (behind i) (body_item i) ≡ []
  item_faultless i lt =
      item_opened i
      ∙ ap (faults_with i) (known.functions i lt)
      ∙ ap (λ fs. (fs ++ []) ++ expr_faults entries [] (bound (definition i).param) (definition i).body)
      (not_again (behind i).definitions (place (body_row i) 1) (name (i + 1)) (is_new i (i + 1) [] (omega arith) (omega (arith, known.small)) refl))
      ∙ body_stands i lt

  -- ---- all of them

  item_later : (i : ℕ) → entry_faults entries (declared_with (behind i) (type_item i)) (body_item i) ≡ entry_faults entries (behind i) (body_item i)
  unfolding type_item body_item
  item_later i = refl

  items_faultless : (i k : ℕ) → i + k ≤ n → faults_from entries (behind i) (spread two_items i k) ≡ []
  items_faultless i zero within = refl
  items_faultless i (suc k) within =
      let one : Before = declared_with (behind i) (type_item i) in
      let two : Before = declared_with one (body_item i) in
      ap (λ fs. fs ++ (entry_faults entries one (body_item i) ++ faults_from entries two (spread two_items (suc i) k))) (type_faultless i (omega arith))
      ∙ ap (λ fs. fs ++ faults_from entries two (spread two_items (suc i) k)) (item_later i ∙ item_faultless i (omega arith))
      ∙ ap (λ b. faults_from entries b (spread two_items (suc i) k)) (one_behind i)
      ∙ items_faultless (suc i) k (omega arith)

cell_faultless : (entries : List Entry) → entry_faults entries beforehand cell_item ≡ []
cell_faultless entries = refl

first_behind : declared_with beforehand cell_item ≡ behind 0
unfolding names_behind
first_behind = refl

pub faultless : (n : ℕ) → Known (cell_item ∷ spread two_items 0 n) n → program_faults (cell_item ∷ spread two_items 0 n) ≡ []
faultless n known =
    let entries : List Entry = cell_item ∷ spread two_items 0 n in
    ap (λ fs. fs ++ faults_from entries (declared_with beforehand cell_item) (spread two_items 0 n)) (cell_faultless entries)
    ∙ ap (λ b. faults_from entries b (spread two_items 0 n)) first_behind
    ∙ items_faultless entries n known 0 n (omega arith)
