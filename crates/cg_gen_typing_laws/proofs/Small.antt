-- The types of all nodes of the kernel are small.
use Rattle.std.proofs.Common.{◌≡◌, ◌<◌, ℕ, zero, suc, ◌+◌, false, true, List, [], ◌∷◌, Some, None, Option, refl, sym, ap, ◌∙◌, arith, subst, slice_get, codes, IsTrue}
use Rattle.std.proofs.lemmas.Option.{slice_get_within}
use Rattle.cg_base.proofs.Options.{some_is}
use Rattle.cg_base.specs.declared.fun.Fun.TheVariants.{User}
use Rattle.cg_base.specs.declared.kind.Word.TheVariants.{U32}
use Rattle.cg_base.specs.declared.place.Place.{Place}
use Rattle.cg_base.specs.Types.{Tau, arrow, word}
use Rattle.cg_core.specs.declared.op.Op.TheVariants.{Mul}
use Rattle.cg_core.specs.Kernels.{Body, Function}
use Rattle.cg_core.specs.Terms.{Tree, term, var, lit, fun, op, put, more, none}
use Rattle.cg_faults.specs.Fails.{AreTypesIn, IsTypeWithin}
use Rattle.cg_faults.specs.Plain.{mentioned, plain}
use Rattle.cg_faults.specs.Sites.{Entry, Path, Site, argument, bound_at, down, parts}
use Rattle.cg_kinds.specs.Kinds.{or_unit}
use Rattle.cg_typing.specs.Parts.{field_in, given_by, held, is_small_enough, taken_by, with_part}
use Rattle.cg_gen_def.specs.Kernels.{body_in, cell_type, function_behind, functions, place_alone, subject_in, sum_in, term_behind}
use Rattle.cg_gen_def.specs.Programs.{at, body_row, place, reach, width}
use Rattle.cg_gen_typing_laws.specs.Laws.{TypesAreSmall}
use Rattle.cg_gen_typing_laws.proofs.Kernel.{HasEarlier, function_of, functions_as_many, has_earlier, mention_is}

module _ (all : List Function) where
  -- the types of a site and of all below it are within the limit
  abbrev Below : Site → Type 0
  Below s = (path : Path) (t : Site) → down all (Some s) path ≡ Some t → IsTypeWithin all t

  abbrev AllBelow : List Site → Type 0
  AllBelow [] = Unit {0}
  AllBelow (s ∷ ss) = Below s × AllBelow ss

  down_part : (ss : List Site) (j : ℕ) (path : Path) (t : Site) → AllBelow ss → down all (slice_get ss j) path ≡ Some t → IsTypeWithin all t
  down_part [] j path t h e = absurd (cc)
  down_part (s ∷ ss) zero path t h e = h.0 path t e
  down_part (s ∷ ss) (suc j) path t h e = down_part ss j path t h.1 e

  -- a node and its parts
  below : (s : Site) → IsTypeWithin all s → AllBelow (parts all s) → Below s
  below s own h [] t e = subst (IsTypeWithin all) (some_is s t e) own
  below s own h (j ∷ path) t e = down_part (parts all s) j path t h e

  -- ---- what is put

  abbrev u32 : Tau
  u32 = word U32

  -- a node without parts that is checked against a word
  number_below : (path : Path) (scope : List Entry) (p : Place) (n : Option ℕ)
      → Below (record { path = path; scope = scope; direction = Some u32; node = term p (lit n) })
  number_below path scope p n = below _ refl tt

  value_below : (path : Path) (scope : List Entry) (p : Place) (i : ℕ)
      → Below (record { path = path; scope = scope; direction = Some u32; node = term p (var i) })
  value_below path scope p i = below _ refl tt

  product_below : (path : Path) (scope : List Entry) (p q r : Place)
      → Below (record { path = path; scope = scope; direction = Some u32; node = term p (op Mul (more (term q (var 2)) (more (term r (lit (Some 3))) none))) })
  product_below path scope p q r = below _ refl (value_below _ scope q 2, (number_below _ scope r (Some 3), tt))

  sum_below : (path : Path) (scope : List Entry) (before : ℕ)
      → Below (record { path = path; scope = scope; direction = Some u32; node = sum_in place_alone before })
  sum_below path scope before = below _ refl (product_below _ scope _ _ _, (number_below _ scope _ (Some (before + 1)), tt))

  -- what is in scope of a body: the argument, and behind what is taken apart of this type the record without its value, and the value
  abbrev scope_of_body : List Entry
  scope_of_body = record { variable = argument; ty = cell_type; observed = false } ∷ []

  abbrev scope_behind : Tau → List Entry
  scope_behind t =
      record { variable = argument; ty = cell_type; observed = false }
      ∷ record { variable = bound_at [] 0; ty = with_part (codes "val") true t; observed = false }
      ∷ record { variable = bound_at [] 1; ty = held (field_in (codes "val") t); observed = false } ∷ []

  abbrev put_in : ℕ → Tree Place
  put_in before =
      term (place (body_row before) (reach before + 29))
      (put (term (place (body_row before) (reach before + 29)) (var 1)) (at (body_row before) (reach before + 33) (codes "val")) (sum_in place_alone before))

  abbrev put_site : ℕ → Tau → Site
  put_site before t = record { path = 1 ∷ []; scope = scope_behind t; direction = Some cell_type; node = put_in before }

  rest_below : (p : Place) → Below (record { path = 1 ∷ 0 ∷ []; scope = scope_behind cell_type; direction = None; node = term p (var 1) })
  rest_below p = below _ refl tt

  put_below : (before : ℕ) → Below (put_site before cell_type)
  put_below before = below (put_site before cell_type) refl (rest_below _, (sum_below _ (scope_behind cell_type) before, tt))

  -- ---- what is taken apart

  mention_type : (i : ℕ) → slice_get all i ≡ Some (function_behind i) → mentioned all (User i) [] ≡ arrow cell_type cell_type
  mention_type i e = ap or_unit (mention_is all i e)

  abbrev subject_site : ℕ → Site
  subject_site before = record { path = 0 ∷ []; scope = scope_of_body; direction = None; node = subject_in place_alone before }

  subject_type : (before : ℕ) → HasEarlier all before → plain all (cell_type ∷ []) (subject_in place_alone before) ≡ cell_type
  unfolding subject_in
  subject_type zero e = refl
  subject_type (suc before) e = ap given_by (mention_type before e)

  mention_below : (p : Place) (i : ℕ) → slice_get all i ≡ Some (function_behind i)
      → Below (record { path = 0 ∷ 0 ∷ []; scope = scope_of_body; direction = None; node = term p (fun (User i) []) })
  mention_below p i e = below _ (subst (λ t. IsTrue (is_small_enough t)) (sym (mention_type i e)) refl) tt

  argument_below : (p : Place) (t : Tau) → t ≡ cell_type
      → Below (record { path = 0 ∷ 1 ∷ []; scope = scope_of_body; direction = Some t; node = term p (var 0) })
  argument_below p t e = below _ (subst (λ t. IsTrue (is_small_enough t)) (sym e) refl) tt

  subject_below : (before : ℕ) → HasEarlier all before → Below (subject_site before)
  unfolding subject_in
  subject_below zero e = below (subject_site zero) refl tt
  subject_below (suc before) e =
      below (subject_site (suc before)) (subst (λ t. IsTrue (is_small_enough t)) (sym (subject_type (suc before) e)) refl)
      (mention_below _ before e, (argument_below _ (taken_by (mentioned all (User before) [])) (ap taken_by (mention_type before e)), tt))

  -- ---- bodies

  abbrev body_site : ℕ → Site
  body_site before = record { path = []; scope = scope_of_body; direction = Some cell_type; node = term_behind before }

  body_below : (before : ℕ) → HasEarlier all before → Below (body_site before)
  unfolding body_in
  body_below before e =
      below (body_site before) refl
      (subject_below before e, (subst (λ t. Below (put_site before t)) (sym (subject_type before e)) (put_below before), tt))

  abbrev body_behind : ℕ → Body
  body_behind before = record { param = place (body_row before) (width before + 2); term = term_behind before }

  function_below : (before : ℕ) → HasEarlier all before → (body : Body) → (function_behind before).body ≡ Some body
      → AreTypesIn all (function_behind before) body
  unfolding function_behind
  function_below before e body is = subst (AreTypesIn all (function_behind before)) (some_is (body_behind before) body is) (body_below before e)

pub types_are_small : TypesAreSmall
types_are_small n i f body there is =
    let within = slice_get_within (functions n) i f there in let many = functions_as_many n in
    let lt : i < n = omega (arith, within, many) in
    let same : function_behind i ≡ f = some_is (function_behind i) f (sym (function_of n i lt) ∙ there) in
    subst (λ g. g.body ≡ Some body → AreTypesIn (functions n) g body) same (function_below (functions n) i (has_earlier n i lt) body) is
