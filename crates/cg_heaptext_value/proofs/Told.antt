-- Values, by what was told of them.
use Rattle.std.proofs.Common.{◌≡◌, ◌⊎◌, inl, inr, ℕ, true, false, List, [], Bor, map, refl, sym, ap, ◌∙◌, subst, arith}
use Rattle.std.specs.Prelude.{Option, Some, None}
use Rattle.cg_base.specs.declared.kind.Sigil.{Sigil}
use Rattle.cg_base.specs.declared.kind.Sigil.TheVariants.{R, W, U}
use Rattle.cg_base.specs.declared.kind.Word.{Word as Width}
use Rattle.cg_base.specs.declared.place.Place.{Place}
use Rattle.cg_base.specs.declared.ty.Ty.{Ty, the_lemmas}
use Rattle.cg_base.specs.declared.ty.Ty.TheVariants as ty
use Rattle.cg_base.specs.Types.{Taus, Parts, abs, bool, end, fields, part, to_taus, type_of, variant, word}
use Rattle.cg_heaptext_cells.specs.Cells.{form_of}
use Rattle.cg_heaptext_cells.specs.declared.cell.CellForm.{CellForm}
use Rattle.cg_heaptext_cells.specs.declared.cell.CellForm.TheVariants as form
use Rattle.cg_heaptext_def.specs.Reading.{slot_values, value, value_all, value_applied}
use Rattle.cg_heaptext_def.specs.Trees as trees
use Rattle.cg_heaptext_def.specs.Trees.{Cell, Fields, Written, address, applied, record', tuple, listed, values_in}
use Rattle.cg_heaptext_entries.specs.Index.{CellStands}
use Rattle.cg_heaptext_lexer.specs.Next.{Cursor}
use Rattle.cg_heaptext_value.specs.Given.{IsFound, abstract_in, boxed_in}
use Rattle.cg_heaptext_values.specs.Values.{FieldsStand, IsHead, StandsAt, ValuesStand}
use Rattle.cg_heaptext_values.specs.declared.head.Head.TheVariants as head
use Rattle.cg_heaptext_values.specs.declared.list.FieldsAt.{FieldsAt}
use Rattle.cg_heaptext_values.specs.declared.list.ValuesAt.{ValuesAt}
use Rattle.cg_value.specs.Values as values
use Rattle.cg_value.specs.Values.{Val, chosen, parts}

-- ---- types

pub word_type : (t : Ty) (w : Width) → t ≡ ty.Word w → type_of t ≡ word w
word_type t w e = grind (arith, the_lemmas)

pub truth_type : (t : Ty) → t ≡ ty.Bool → type_of t ≡ bool
truth_type t e = grind (arith, the_lemmas)

module _ (cells : ℕ → Option Cell) where
  abstract_is : (name : List ℕ) (ts : Taus) (s : Sigil) (w : Written) → abstract_in cells w ≡ value cells (abs name ts s) w
  unfolding value
  abstract_is name ts s (address p n) = refl
  abstract_is name ts s w = refl

  pub abstract_told : (t : Ty) (name : List ℕ) (args : List Ty) (s : Sigil) → t ≡ ty.Abs name args s → (w : Written) → abstract_in cells w ≡ value cells (type_of t) w
  abstract_told t name args s e w =
      let is : type_of t ≡ abs name (to_taus (map type_of args)) s = grind (arith, the_lemmas) in
      abstract_is name (to_taus (map type_of args)) s w ∙ ap (λ t. value cells t w) (sym is)

  -- ---- records

  read_is : (ps : Parts) (w : Written) → boxed_in cells ps w ≡ value cells (fields ps R) w
  unfolding value
  read_is ps (address p n) = refl
  read_is ps w = refl

  written_is : (ps : Parts) (w : Written) → boxed_in cells ps w ≡ value cells (fields ps W) w
  unfolding value
  written_is ps (address p n) = refl
  written_is ps w = refl

  pub boxed_told : (ps : Parts) (s : Sigil) → (s ≡ R) ⊎ (s ≡ W) → (w : Written) → boxed_in cells ps w ≡ value cells (fields ps s) w
  boxed_told ps s (inl e) w = read_is ps w ∙ ap (λ m. value cells (fields ps m) w) (sym e)
  boxed_told ps s (inr e) w = written_is ps w ∙ ap (λ m. value cells (fields ps m) w) (sym e)

  pub tuple_told : (ps : Parts) (at : ValuesAt) (w : Written) (Q : Val → Type 0) → IsHead (head.Tuple at) w → ((vs : List Written) → ValuesStand at vs → Q (parts (value_all cells ps vs))) → Q (value cells (fields ps U) w)
  unfolding value
  tuple_told ps at (tuple p vs) Q is given = given (listed vs) is
  tuple_told ps at w Q is given = absurd is

  pub record_told : (ps : Parts) (at : FieldsAt) (w : Written) (Q : Val → Type 0) → IsHead (head.Record at) w → ((fs : Fields) → FieldsStand at fs → Q (parts (value_all cells ps (values_in fs)))) → Q (value cells (fields ps U) w)
  unfolding value
  record_told ps at (record' p fs) Q is given = given fs is
  record_told ps at w Q is given = absurd is

  -- ---- alternatives

  pub applied_told : (ps : Parts) (x : Bor (List ℕ)) (at : Cursor) (w : Written) (Q : Val → Type 0) → IsHead (head.Applied x at) w → ((v : Written) → StandsAt at v → Q (chosen x.now (value_applied cells ps x.now v))) → Q (value cells (variant ps) w)
  unfolding value
  applied_told ps x at (applied p y v) Q is given = subst (λ z. Q (chosen z (value_applied cells ps z v))) is.0 (given v is.1)
  applied_told ps x at w Q is given = absurd is

  -- ---- fields of which there are none

  pub no_values : (ps : Parts) → value_all cells ps [] ≡ values.none
  unfolding value
  no_values end = refl
  no_values (part x t true ps) = refl
  no_values (part x t false ps) = refl

  pub no_cell : (ps : Parts) (o : Option Cell) → IsFound None o → value_all cells ps (slot_values o) ≡ values.none
  no_cell ps None f = no_values ps
  no_cell ps (Some c) f = absurd f

  no_slots : (ps : Parts) (c : Cell) (r : CellForm) → r ≡ form_of c → (form.Slots ≡ r → ⊥) → value_all cells ps (slot_values (Some c)) ≡ values.none
  no_slots ps (trees.slots p fs) r e other = absurd (other (sym e))
  no_slots ps (trees.elements p ns) r e other = no_values ps
  no_slots ps (trees.answers p bs) r e other = no_values ps

  pub other_form : (ps : Parts) (c : Cell) (r : CellForm) → (r ≡ form.Elements) ⊎ (r ≡ form.Answers) → r ≡ form_of c → value_all cells ps (slot_values (Some c)) ≡ values.none
  other_form ps c r (inl is) e = no_slots ps c r e (λ s. let t = s ∙ is in absurd (cc))
  other_form ps c r (inr is) e = no_slots ps c r e (λ s. let t = s ∙ is in absurd (cc))

-- ---- cells

pub found_told : (at : Cursor) (o : Option Cell) (Q : Option Cell → Type 0) → IsFound (Some at) o → ((c : Cell) → CellStands at c → Q (Some c)) → Q o
found_told at None Q f given = absurd f
found_told at (Some c) Q f given = given c f

pub slots_told : (at : Cursor) (c : Cell) (Q : Cell → Type 0) → form.Slots ≡ form_of c → CellStands at c → ((p : Place) (fs : Fields) → CellStands at (trees.slots p fs) → Q (trees.slots p fs)) → Q c
slots_told at (trees.slots p fs) Q e s given = given p fs s
slots_told at (trees.elements p ns) Q e s given = absurd (cc)
slots_told at (trees.answers p bs) Q e s given = absurd (cc)
