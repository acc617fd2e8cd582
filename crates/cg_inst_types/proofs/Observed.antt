-- The bang of a type, by its parts.
use Rattle.std.proofs.Common.{◌≡◌, ℕ, ◌+◌, min, Bool, IsTrue, List, slice_get, Some, refl, sym, ap, ◌∙◌, true≢false, arith}
use Rattle.std.proofs.lemmas.Option.{slice_get_within}
use Rattle.cg_base.specs.declared.kind.Sigil.{Sigil}
use Rattle.cg_base.specs.Types.{Tau, var, seen, unit, word, bool, arrow, abs, variant, fields}
use Rattle.cg_kinds.specs.Kinds.{bang, bang_sigil}
use Rattle.cg_typing.specs.Parts.{nodes}
use Rattle.cg_inst_types.specs.declared.rows.Node.TheVariants as node
use Rattle.cg_inst_types.specs.Forms.{with_argument, with_part}
use Rattle.cg_inst_types.specs.Places.{type_at, name_at}
use Rattle.cg_inst_types.specs.Layers.{made, is_abs, has_parts, Fits, capped}
use Rattle.cg_inst_types.proofs.Growth.{at_type}

bang_argument : (r t : Tau) → with_argument (bang r) (bang t) ≡ bang (with_argument r t)
unfolding bang
bang_argument (var n) t = refl
bang_argument (seen n) t = refl
bang_argument unit t = refl
bang_argument (word w) t = refl
bang_argument bool t = refl
bang_argument (arrow a b) t = refl
bang_argument (abs name ts sigil) t = refl
bang_argument (variant ps) t = refl
bang_argument (fields ps sigil) t = refl

bang_part : (r : Tau) (name : List ℕ) (t : Tau) (taken : Bool) → with_part (bang r) name (bang t) taken ≡ bang (with_part r name t taken)
unfolding bang
bang_part (var n) name t taken = refl
bang_part (seen n) name t taken = refl
bang_part unit name t taken = refl
bang_part (word w) name t taken = refl
bang_part bool name t taken = refl
bang_part (arrow a b) name t taken = refl
bang_part (abs x ts sigil) name t taken = refl
bang_part (variant ps) name t taken = refl
bang_part (fields ps sigil) name t taken = refl

is_abs_bang : (r : Tau) → is_abs (bang r) ≡ is_abs r
unfolding bang
is_abs_bang (var n) = refl
is_abs_bang (seen n) = refl
is_abs_bang unit = refl
is_abs_bang (word w) = refl
is_abs_bang bool = refl
is_abs_bang (arrow a b) = refl
is_abs_bang (abs name ts sigil) = refl
is_abs_bang (variant ps) = refl
is_abs_bang (fields ps sigil) = refl

has_parts_bang : (r : Tau) → has_parts (bang r) ≡ has_parts r
unfolding bang
has_parts_bang (var n) = refl
has_parts_bang (seen n) = refl
has_parts_bang unit = refl
has_parts_bang (word w) = refl
has_parts_bang bool = refl
has_parts_bang (arrow a b) = refl
has_parts_bang (abs name ts sigil) = refl
has_parts_bang (variant ps) = refl
has_parts_bang (fields ps sigil) = refl

module _ (names : List (List ℕ)) (types : List Tau) where
  pub observed_unit : made names types node.Unit ≡ bang (made names types node.Unit)
  unfolding bang
  observed_unit = refl

  pub observed_word : (w : _) → made names types (node.Word w) ≡ bang (made names types (node.Word w))
  unfolding bang
  observed_word w = refl

  pub observed_bool : made names types node.Bool ≡ bang (made names types node.Bool)
  unfolding bang
  observed_bool = refl

  pub observed_arrow : (i j : ℕ) → made names types (node.Arrow i j) ≡ bang (made names types (node.Arrow i j))
  unfolding bang
  observed_arrow i j = refl

  pub observed_variant : made names types node.Variant ≡ bang (made names types node.Variant)
  unfolding bang
  observed_variant = refl

  pub observed_abs : (i : ℕ) (sigil : Sigil) → made names types (node.Abs i (bang_sigil sigil)) ≡ bang (made names types (node.Abs i sigil))
  unfolding bang
  observed_abs i sigil = refl

  pub observed_record : (sigil : Sigil) → made names types (node.Record (bang_sigil sigil)) ≡ bang (made names types (node.Record sigil))
  unfolding bang
  observed_record sigil = refl

  module _ (i i' j j' : ℕ) (at_rest : slice_get types i' ≡ Some (bang (type_at types i))) (at_part : slice_get types j' ≡ Some (bang (type_at types j))) where
    pub observed_argument : made names types (node.Argument i' j') ≡ bang (made names types (node.Argument i j))
    observed_argument =
        (λ k. with_argument (at_type types i' (bang (type_at types i)) at_rest k) (at_type types j' (bang (type_at types j)) at_part k))
        ∙ bang_argument (type_at types i) (type_at types j)

    pub fits_argument : Fits names types (node.Argument i j) → Fits names types (node.Argument i' j')
    fits_argument f = (
      (slice_get_within types i' _ at_rest, (slice_get_within types j' _ at_part, tt)),
      tt,
      ap is_abs (at_type types i' _ at_rest) ∙ is_abs_bang (type_at types i) ∙ f.2,
    )

    pub observed_part : (x : ℕ) (taken : Bool) → made names types (node.Part i' x j' taken) ≡ bang (made names types (node.Part i x j taken))
    observed_part x taken =
        (λ k. with_part (at_type types i' (bang (type_at types i)) at_rest k) (name_at names x) (at_type types j' (bang (type_at types j)) at_part k) taken)
        ∙ bang_part (type_at types i) (name_at names x) (type_at types j) taken

    pub fits_part : (x : ℕ) (taken : Bool) → Fits names types (node.Part i x j taken) → Fits names types (node.Part i' x j' taken)
    fits_part x taken f = (
      (slice_get_within types i' _ at_rest, (slice_get_within types j' _ at_part, tt)),
      f.1,
      ap has_parts (at_type types i' _ at_rest) ∙ has_parts_bang (type_at types i) ∙ f.2,
    )

-- ---- how many nodes

capped_sum : (a b : ℕ) → min (capped a + capped b) 4294967295 ≡ capped (a + b)
capped_sum a b = omega arith

nodes_argument : (r t : Tau) → IsTrue (is_abs r) → nodes r + nodes t ≡ nodes (with_argument r t)
nodes_argument (abs name ts sigil) t p = omega arith
nodes_argument (var n) t p = absurd (true≢false (sym p))
nodes_argument (seen n) t p = absurd (true≢false (sym p))
nodes_argument unit t p = absurd (true≢false (sym p))
nodes_argument (word w) t p = absurd (true≢false (sym p))
nodes_argument bool t p = absurd (true≢false (sym p))
nodes_argument (arrow a b) t p = absurd (true≢false (sym p))
nodes_argument (variant ps) t p = absurd (true≢false (sym p))
nodes_argument (fields ps sigil) t p = absurd (true≢false (sym p))

nodes_part : (r : Tau) (name : List ℕ) (t : Tau) (taken : Bool) → IsTrue (has_parts r) → nodes r + nodes t ≡ nodes (with_part r name t taken)
nodes_part (variant ps) name t taken p = omega arith
nodes_part (fields ps sigil) name t taken p = omega arith
nodes_part (var n) name t taken p = absurd (true≢false (sym p))
nodes_part (seen n) name t taken p = absurd (true≢false (sym p))
nodes_part unit name t taken p = absurd (true≢false (sym p))
nodes_part (word w) name t taken p = absurd (true≢false (sym p))
nodes_part bool name t taken p = absurd (true≢false (sym p))
nodes_part (arrow a b) name t taken p = absurd (true≢false (sym p))
nodes_part (abs x ts sigil) name t taken p = absurd (true≢false (sym p))

pub size_argument : (r t : Tau) → IsTrue (is_abs r) → (a b s : ℕ) → a ≡ capped (nodes r) → b ≡ capped (nodes t) → s ≡ min (a + b) 4294967295 → s ≡ capped (nodes (with_argument r t))
size_argument r t p a b s e f g = g ∙ (λ k. min (e k + f k) 4294967295) ∙ capped_sum (nodes r) (nodes t) ∙ ap capped (nodes_argument r t p)

pub size_part : (r : Tau) (name : List ℕ) (t : Tau) (taken : Bool) → IsTrue (has_parts r) → (a b s : ℕ) → a ≡ capped (nodes r) → b ≡ capped (nodes t) → s ≡ min (a + b) 4294967295 →
    s ≡ capped (nodes (with_part r name t taken))
size_part r name t taken p a b s e f g = g ∙ (λ k. min (e k + f k) 4294967295) ∙ capped_sum (nodes r) (nodes t) ∙ ap capped (nodes_part r name t taken p)
