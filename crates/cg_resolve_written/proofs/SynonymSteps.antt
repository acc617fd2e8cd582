-- A table of synonyms with a body more.
use Rattle.std.proofs.Common.{◌≡◌, ℕ, ◌<◌, Bool, true, false, cond, List, Bor, Result, Ok, Err, IsErr, IfErr, Some, None, refl, ap, ◌∙◌}
use Rattle.std.proofs.lemmas.Map.Text.{is_eq-slice_cmp}
use Rattle.std.proofs.lemmas.Option.{slice_get-map}
use Rattle.std.specs.BTreeMap as tree
use Rattle.std.specs.Cmp.Lexicographic.{slice_cmp}
use Rattle.std.specs.Option.{option_map}
use Rattle.std.specs.Ordering.{nat_cmp}
use Rattle.std.specs.Str.{bytes_eq}
use Rattle.cg_base.specs.Types.{type_of}
use Rattle.cg_base.specs.declared.ty.Ty.{Ty}
use Rattle.cg_resolve_def.specs.Desugar.{type_limit}
use Rattle.cg_resolve_def.specs.Takes.{largest_type}
use Rattle.cg_surface.specs.Programs.{Entry}
use Rattle.cg_resolve_expand.specs.Known.{known_of}
use Rattle.cg_resolve_expand.specs.declared.table.Synonyms.{Synonyms}
use Rattle.cg_resolve_written.specs.Answers.{SynonymsSay}
use Rattle.cg_resolve_written.specs.declared.oversize.Oversize.{Oversize}
use Rattle.cg_resolve_written.specs.declared.oversize.Oversize.TheVariants.{TooLarge, Memory}

-- nothing is known of names in an empty table
pub known_none : (synonyms : Synonyms) → tree.IsEmpty synonyms.bodies → (n : List ℕ) → known_of synonyms n ≡ None
known_none synonyms empty n = rw empty refl

-- a body more
pub known_more : (old new : Synonyms) (name : Bor (List ℕ)) (ty : Ty) → tree.Updates (λ x y. slice_cmp nat_cmp x.now y.now) old.bodies new.bodies name (Some ty)
    → (other : List ℕ) → known_of new other ≡ cond (bytes_eq name.now other) (Some (type_of ty)) (known_of old other)
known_more old new name ty updates other =
    ap (option_map type_of) (updates.0 (record { ref_ptr = (0, 0); now = other }) ∙ ap (λ b. cond b (Some ty) (tree.get_by (λ key. slice_cmp nat_cmp other key.now) old.bodies)) (is_eq-slice_cmp name.now other))
    ∙ pick (bytes_eq name.now other)
  where
    pick : (b : Bool) → option_map type_of (cond b (Some ty) (tree.get_by (λ key. slice_cmp nat_cmp other key.now) old.bodies)) ≡ cond b (Some (type_of ty)) (known_of old other)
    pick true = refl
    pick false = refl

-- an error says what it stands for
pub says_error : (entries : List Entry) (result : Result Synonyms Oversize) → IsErr result → IfErr result (λ e. e ≡ TooLarge → type_limit < largest_type entries) → SynonymsSay entries result
says_error entries (Ok synonyms) error over = absurd (cc)
says_error entries (Err TooLarge) error over = over refl
says_error entries (Err Memory) error over = tt

pub ruleset synonym_steps = (slice_get-map)
