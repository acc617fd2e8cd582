-- Parts by name, of a type whose variables are replaced and of an observed one.
use Rattle.std.proofs.Common.{◌≡◌, ℕ, Bool, true, false, ◌&&◌, ◌||◌, not, IsTrue, Option, Some, None, List, refl, ap, ◌∙◌}
use Rattle.std.specs.Prelude.{if◌then◌else◌}
use Rattle.std.specs.Option.{option_map}
use Rattle.std.specs.Str.{bytes_eq}
use Rattle.cg_base.specs.declared.kind.Sigil.TheVariants.{R, W, U}
use Rattle.cg_base.specs.Types.{Tau, var, seen, unit, word, bool, arrow, abs, variant, fields, Parts, end, part, Piece}
use Rattle.cg_kinds.specs.Kinds.{bang, bang_parts, bang_piece, bang_sigil, subst, subst_parts, subst_piece}
use Rattle.cg_typing.specs.Parts.{part_named, parts_with, field_in, alternative_in, held, is_left, is_there, is_read_only, is_last, are_others_taken, is_whole, is_cell, all_taken, all_parts_taken, with_part}
use Rattle.cg_typing_laws.specs.Laws.{PartsAreObserved}

-- a choice between what a function gives, and what it gives of a choice
choose : {A B : Type 0} (f : A → B) (b : Bool) (x y : A) (y' : B) → y' ≡ f y → (if b then f x else y') ≡ f (if b then x else y)
choose f true x y y' e = refl
choose f false x y y' e = e

-- ---- type arguments in the place of variables

module _ (given : List Tau) where
  found : (n : List ℕ) (ps : Parts) → part_named n (subst_parts given ps) ≡ option_map (subst_piece given) (part_named n ps)
  unfolding subst
  found n end = refl
  found n (part name t taken ps) =
      choose (option_map (subst_piece given)) (bytes_eq n name) (Some (record { name = name; ty = t; taken = taken })) (part_named n ps) _ (found n ps)

  with_parts : (n : List ℕ) (now : Bool) (ps : Parts) → parts_with n now (subst_parts given ps) ≡ subst_parts given (parts_with n now ps)
  unfolding subst
  with_parts n now end = refl
  with_parts n now (part name t taken ps) =
      choose (subst_parts given) (bytes_eq n name) (part name t now ps) (part name t taken (parts_with n now ps)) _ (ap (part name (subst given t) taken) (with_parts n now ps))

  others_taken : (n : List ℕ) (ps : Parts) → are_others_taken n (subst_parts given ps) ≡ are_others_taken n ps
  unfolding subst
  others_taken n end = refl
  others_taken n (part name t taken ps) = ap (λ b. (bytes_eq n name || taken) && b) (others_taken n ps)

  whole_kept : (ps : Parts) → is_whole (subst_parts given ps) ≡ is_whole ps
  unfolding subst
  whole_kept end = refl
  whole_kept (part name t taken ps) = ap (λ b. not taken && b) (whole_kept ps)

  all_parts : (ps : Parts) → all_parts_taken (subst_parts given ps) ≡ subst_parts given (all_parts_taken ps)
  unfolding subst
  all_parts end = refl
  all_parts (part name t taken ps) = ap (part name (subst given t) true) (all_parts ps)

  -- a field or an alternative that is there is found after, with its variables replaced
  pub field_kept : (n : List ℕ) (t : Tau) → IsTrue (is_there (field_in n t)) → field_in n (subst given t) ≡ option_map (subst_piece given) (field_in n t)
  unfolding subst
  field_kept n (fields ps sigil) h = found n ps
  field_kept n _ h = absurd (cc)

  pub alternative_kept : (n : List ℕ) (t : Tau) → IsTrue (is_there (alternative_in n t)) → alternative_in n (subst given t) ≡ option_map (subst_piece given) (alternative_in n t)
  unfolding subst
  alternative_kept n (variant ps) h = found n ps
  alternative_kept n _ h = absurd (cc)

  -- where one is there, the rest of its type is marked before or after
  pub with_field : (n : List ℕ) (now : Bool) (t : Tau) → IsTrue (is_there (field_in n t)) → with_part n now (subst given t) ≡ subst given (with_part n now t)
  unfolding subst
  with_field n now (fields ps sigil) h = ap (λ qs. fields qs sigil) (with_parts n now ps)
  with_field n now _ h = absurd (cc)

  pub with_alternative : (n : List ℕ) (now : Bool) (t : Tau) → IsTrue (is_there (alternative_in n t)) → with_part n now (subst given t) ≡ subst given (with_part n now t)
  unfolding subst
  with_alternative n now (variant ps) h = ap variant (with_parts n now ps)
  with_alternative n now _ h = absurd (cc)

  pub written_kept : (n : List ℕ) (t : Tau) → IsTrue (is_there (field_in n t)) → is_read_only t ≡ false → is_read_only (subst given t) ≡ false
  unfolding subst
  written_kept n (fields ps R) h e = e
  written_kept n (fields ps W) h e = e
  written_kept n (fields ps U) h e = e
  written_kept n _ h e = absurd (cc)

  pub last_kept : (n : List ℕ) (t : Tau) → IsTrue (is_last n t) → IsTrue (is_last n (subst given t))
  unfolding subst
  last_kept n (variant ps) h = others_taken n ps ∙ h
  last_kept n _ h = absurd (cc)

  -- what is held, and whether it is left
  pub held_kept : (o : Option Piece) → IsTrue (is_there o) → held (option_map (subst_piece given) o) ≡ subst given (held o)
  held_kept (Some p) h = refl
  held_kept None h = absurd (cc)

  pub left_kept : (o : Option Piece) → IsTrue (is_left o) → IsTrue (is_left (option_map (subst_piece given) o))
  left_kept (Some p) h = h
  left_kept None h = absurd (cc)

  pub there_kept : (o : Option Piece) → IsTrue (is_there o) → IsTrue (is_there (option_map (subst_piece given) o))
  there_kept (Some p) h = refl
  there_kept None h = absurd (cc)

  -- a record that can be written, of which no field is taken
  pub cell_kept : (t : Tau) → IsTrue (is_cell t) → IsTrue (is_cell (subst given t))
  unfolding subst
  cell_kept (fields ps W) h = whole_kept ps ∙ h
  cell_kept _ h = absurd (cc)

  pub cell_taken : (t : Tau) → IsTrue (is_cell t) → all_taken (subst given t) ≡ subst given (all_taken t)
  unfolding subst
  cell_taken (fields ps W) h = ap (λ qs. fields qs W) (all_parts ps)
  cell_taken _ h = absurd (cc)

pub left_is_there : (o : Option Piece) → IsTrue (is_left o) → IsTrue (is_there o)
left_is_there (Some p) h = refl
left_is_there None h = absurd (cc)

-- ---- observed types

observed_found : (n : List ℕ) (ps : Parts) → part_named n (bang_parts ps) ≡ option_map bang_piece (part_named n ps)
unfolding bang
observed_found n end = refl
observed_found n (part name t taken ps) =
    choose (option_map bang_piece) (bytes_eq n name) (Some (record { name = name; ty = t; taken = taken })) (part_named n ps) _ (observed_found n ps)

observed_with : (n : List ℕ) (now : Bool) (ps : Parts) → parts_with n now (bang_parts ps) ≡ bang_parts (parts_with n now ps)
unfolding bang
observed_with n now end = refl
observed_with n now (part name t taken ps) =
    choose bang_parts (bytes_eq n name) (part name t now ps) (part name t taken (parts_with n now ps)) _ (ap (part name (bang t) taken) (observed_with n now ps))

observed_last : (n : List ℕ) (ps : Parts) → are_others_taken n (bang_parts ps) ≡ are_others_taken n ps
unfolding bang
observed_last n end = refl
observed_last n (part name t taken ps) = ap (λ b. (bytes_eq n name || taken) && b) (observed_last n ps)

pub parts_observed : PartsAreObserved
unfolding bang
parts_observed n (variant ps) = record { field = refl; alternative = observed_found n ps; taken = λ now. ap variant (observed_with n now ps); last = observed_last n ps }
parts_observed n (fields ps sigil) = record { field = observed_found n ps; alternative = refl; taken = λ now. ap (λ qs. fields qs (bang_sigil sigil)) (observed_with n now ps); last = refl }
parts_observed n (var i) = record { field = refl; alternative = refl; taken = λ now. refl; last = refl }
parts_observed n (seen i) = record { field = refl; alternative = refl; taken = λ now. refl; last = refl }
parts_observed n unit = record { field = refl; alternative = refl; taken = λ now. refl; last = refl }
parts_observed n (word w) = record { field = refl; alternative = refl; taken = λ now. refl; last = refl }
parts_observed n bool = record { field = refl; alternative = refl; taken = λ now. refl; last = refl }
parts_observed n (arrow a b) = record { field = refl; alternative = refl; taken = λ now. refl; last = refl }
parts_observed n (abs name ts sigil) = record { field = refl; alternative = refl; taken = λ now. refl; last = refl }
