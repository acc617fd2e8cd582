-- Lists of types in a table.
use Rattle.std.proofs.Common.{◌≡◌, ℕ, Bool, IsTrue, List, [], ◌∷◌, slice_get, Some, refl, sym, ap, ◌∙◌, true≢false}
use Rattle.cg_base.specs.declared.kind.Sigil.TheVariants.{U}
use Rattle.cg_base.specs.Types.{Tau, var, seen, unit, word, bool, arrow, abs, variant, fields, none, more, to_taus, tau_list}
use Rattle.cg_inst_types.specs.declared.rows.Node.{Node}
use Rattle.cg_inst_types.specs.declared.rows.Node.TheVariants as node
use Rattle.cg_inst_types.specs.Forms.{with_argument, with_part}
use Rattle.cg_inst_types.specs.Places.{name_at, type_at}
use Rattle.cg_inst_types.specs.Layers.{Fits, is_abs, made}
use Rattle.cg_inst_types.specs.Listings.{IsListing, list_at, list_of, listing}
use Rattle.cg_inst_types.proofs.Growth.{at_type, type_within, some_same}

pub listing_none : abs [] none U ≡ listing []
unfolding to_taus
listing_none = refl

-- a list with one type more, in front of the others
pub listing_more : (types : List Tau) (at : ℕ) (t : Tau) → IsListing types at → with_argument (type_at types at) t ≡ listing (t ∷ list_at types at)
unfolding to_taus
listing_more types at t e = ap (λ r. with_argument r t) (at_type types at _ e)

-- an abstract type without its first argument
behind : Tau → Tau
behind (abs name (more t ts) sigil) = abs name ts sigil
behind t = t

rest_listing : (r t : Tau) → IsTrue (is_abs r) → with_argument r t ≡ listing (list_of (Some (with_argument r t))) → r ≡ listing (list_of (Some r))
unfolding to_taus tau_list behind
rest_listing (abs name ts sigil) t p e = ap behind e
rest_listing (var n) t p e = absurd (true≢false (sym p))
rest_listing (seen n) t p e = absurd (true≢false (sym p))
rest_listing unit t p e = absurd (true≢false (sym p))
rest_listing (word w) t p e = absurd (true≢false (sym p))
rest_listing bool t p e = absurd (true≢false (sym p))
rest_listing (arrow a b) t p e = absurd (true≢false (sym p))
rest_listing (variant ps) t p e = absurd (true≢false (sym p))
rest_listing (fields ps sigil) t p e = absurd (true≢false (sym p))

first_listed : (r t : Tau) → IsTrue (is_abs r) → list_of (Some (with_argument r t)) ≡ t ∷ list_of (Some r)
unfolding tau_list
first_listed (abs name ts sigil) t p = refl
first_listed (var n) t p = absurd (true≢false (sym p))
first_listed (seen n) t p = absurd (true≢false (sym p))
first_listed unit t p = absurd (true≢false (sym p))
first_listed (word w) t p = absurd (true≢false (sym p))
first_listed bool t p = absurd (true≢false (sym p))
first_listed (arrow a b) t p = absurd (true≢false (sym p))
first_listed (variant ps) t p = absurd (true≢false (sym p))
first_listed (fields ps sigil) t p = absurd (true≢false (sym p))

no_part : (r : Tau) (name : List ℕ) (t : Tau) (taken : Bool) → list_of (Some (with_part r name t taken)) ≡ []
no_part (variant ps) name t taken = refl
no_part (fields ps sigil) name t taken = refl
no_part (var n) name t taken = refl
no_part (seen n) name t taken = refl
no_part unit name t taken = refl
no_part (word w) name t taken = refl
no_part bool name t taken = refl
no_part (arrow a b) name t taken = refl
no_part (abs x ts sigil) name t taken = refl

module _ (names : List (List ℕ)) (types : List Tau) (at : ℕ) where
  -- the list at a place whose node has a type in front
  module _ (rest ty : ℕ) (stands : slice_get types at ≡ Some (made names types (node.Argument rest ty))) (fits : Fits names types (node.Argument rest ty)) where
    pub at_front : list_at types at ≡ type_at types ty ∷ list_at types rest
    at_front =
        ap list_of stands ∙ first_listed (type_at types rest) (type_at types ty) fits.2
        ∙ ap (λ o. type_at types ty ∷ list_of o) (sym (type_within types rest fits.0.0))

    pub at_rest : IsListing types at → IsListing types rest
    at_rest e =
        let whole = some_same (sym stands ∙ e) ∙ ap (λ o. listing (list_of o)) stands in
        let r = rest_listing (type_at types rest) (type_at types ty) fits.2 whole in
        type_within types rest fits.0.0 ∙ ap Some r ∙ ap (λ o. Some (listing (list_of o))) (sym (type_within types rest fits.0.0))

  -- a node without a type in front has no list, or that of no types
  pub no_front : (n : Node) → ((rest ty : ℕ) → n ≡ node.Argument rest ty → ⊥) → slice_get types at ≡ Some (made names types n) → list_at types at ≡ []
  unfolding tau_list
  no_front node.Unit other stands = ap list_of stands
  no_front (node.Word w) other stands = ap list_of stands
  no_front node.Bool other stands = ap list_of stands
  no_front (node.Arrow from to) other stands = ap list_of stands
  no_front (node.Abs name sigil) other stands = ap list_of stands
  no_front (node.Argument rest ty) other stands = absurd (other rest ty refl)
  no_front node.Variant other stands = ap list_of stands
  no_front (node.Record sigil) other stands = ap list_of stands
  no_front (node.Part rest name ty taken) other stands = ap list_of stands ∙ no_part (type_at types rest) (name_at names name) (type_at types ty) taken
