-- The text of a value at its type (docs/LANGUAGE.md, "Values").
use Rattle.std.specs.Prelude.{ℕ, zero, ◌+◌, Bool, true, false, ◌&&◌, not, nat_eq, List, [], ◌∷◌, ◌++◌, codes, decimal, if◌then◌else◌}
use Rattle.std.specs.Str.{bytes_eq}
use Rattle.cg_base.specs.declared.kind.Sigil.{Sigil}
use Rattle.cg_base.specs.declared.kind.Sigil.TheVariants.{U}
use Rattle.cg_base.specs.Types.{Tau, unit, word, bool, abs, variant, fields, Parts, end, part}
use Rattle.cg_value.specs.Values.{Val, number, nothing, chosen, parts, elements, answers, Vals, more}

-- the name of the component at this position of a tuple, counted from 0
abbrev pub component : ℕ → List ℕ
component i = codes "p" ++ decimal (i + 1)

-- the names of the parts are those of components, from this position on
unfoldable pub are_components : ℕ → Parts → Bool
are_components i end = true
are_components i (part x t taken ps) = bytes_eq x (component i) && are_components (i + 1) ps

-- a tuple is an unboxed record of two or more components
unfoldable pub is_tuple : Parts → Sigil → Bool
is_tuple (part x t a (part y u b ps)) U = are_components zero (part x t a (part y u b ps))
is_tuple _ _ = false

-- what stands round the fields of a record
abbrev pub opening : Bool → Sigil → List ℕ
opening true sigil = codes "("
opening false U = codes "#{"
opening false _ = codes "{"

abbrev pub closing : Bool → List ℕ
closing true = codes ")"
closing false = codes "}"

-- the name of a field, which a component's isn't printed
abbrev pub label : Bool → List ℕ → List ℕ
label true x = []
label false x = x ++ codes " = "

abbrev pub truth : ℕ → List ℕ
truth n = if nat_eq n zero then codes "False" else codes "True"

unfoldable pub bit : Bool → List ℕ
bit true = codes "1"
bit false = codes "0"

-- items, the first behind this text and each other one behind a comma
unfoldable pub listed : {A : Type 0} → (A → List ℕ) → List ℕ → List A → List ℕ
listed text lead [] = []
listed text lead (x ∷ xs) = lead ++ text x ++ listed text (codes ", ") xs

abbrev pub is_unit : Tau → Bool
is_unit unit = true
is_unit _ = false

-- the alternative of this name has a payload that is printed: it isn't unit
unfoldable pub shows_payload : List ℕ → Parts → Bool
shows_payload x end = false
shows_payload x (part y t taken ps) = if bytes_eq x y then not (is_unit t) else shows_payload x ps

-- a payload stands in parentheses that has a printed payload itself
abbrev pub is_wrapped : Val → Tau → Bool
is_wrapped (chosen x v) (variant ps) = shows_payload x ps
is_wrapped _ _ = false

abbrev pub wrapped : Bool → List ℕ → List ℕ
wrapped true text = codes "(" ++ text ++ codes ")"
wrapped false text = text

-- a payload whose text this is, unless it is unit
abbrev pub payload_text : Val → Tau → List ℕ → List ℕ
payload_text v t text = if is_unit t then [] else codes " " ++ wrapped (is_wrapped v t) text

-- a field whose value has this text
abbrev pub field_text : Bool → List ℕ → Bool → List ℕ → List ℕ
field_text tuple x taken text = label tuple x ++ (if taken then codes "_" else text)

-- the text of a value, which means something where it fits the type, in which there is no function and no user's abstract type
unfoldable mutual
  pub printed : Val → Tau → List ℕ
  printed (number n) (word w) = decimal n
  printed (number n) bool = truth n
  printed nothing unit = codes "()"
  printed (chosen x v) (variant ps) = x ++ payload x v ps
  printed (parts vs) (fields ps sigil) = opening (is_tuple ps sigil) sigil ++ fields_text (is_tuple ps sigil) [] vs ps ++ closing (is_tuple ps sigil)
  printed (elements ns) (abs name args sigil) = codes "[" ++ listed decimal [] ns ++ codes "]"
  printed (answers bs) (abs name args sigil) = codes "<" ++ listed bit [] bs ++ codes ">"
  printed _ _ = []

  -- the payload of the alternative of this name
  pub payload : List ℕ → Val → Parts → List ℕ
  payload x v end = []
  payload x v (part y t taken ps) = if bytes_eq x y then payload_text v t (printed v t) else payload x v ps

  -- fields, or the components of a tuple, the first behind this text and each other one behind a comma
  pub fields_text : Bool → List ℕ → Vals → Parts → List ℕ
  fields_text tuple lead (more v vs) (part x t taken ps) = lead ++ field_text tuple x taken (printed v t) ++ fields_text tuple (codes ", ") vs ps
  fields_text tuple lead _ _ = []
