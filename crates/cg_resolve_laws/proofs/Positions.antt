-- Positions: of a function among the signatures, and of its signature among the items.
use Rattle.std.proofs.Common.{◌≡◌, ℕ, zero, suc, ◌+◌, Bool, true, false, cond, List, [], ◌∷◌, Some, refl, sym, ap, ◌∙◌, arith}
use Rattle.std.proofs.lemmas.Bool.{or_parts}
use Rattle.std.specs.List.{filter_map, slice_get}
use Rattle.std.specs.Str.{bytes_eq}
use Rattle.cg_base.specs.declared.kind.Bound.{Bound}
use Rattle.cg_base.specs.declared.place.Place.{Place}
use Rattle.cg_core.specs.declared.at.At.{At}
use Rattle.cg_core.specs.Kernels.{Function}
use Rattle.cg_surface.specs.Programs.{Entry, synonym, abstract, signature, define}
use Rattle.cg_surface.specs.Written.{Written}
use Rattle.cg_resolve_def.specs.Declared.{OfProgram, function_from, is_among}
use Rattle.cg_resolve_def.specs.Desugar.{function_of, function_of_entry}
use Rattle.cg_resolve_def.specs.Faults.{Before, declared_with, entry_faults, faults_from}
use Rattle.cg_resolve_def.specs.Mentions.{signature_from}
use Rattle.cg_resolve_def.proofs.Faultless.{behind}
use Rattle.cg_resolve_laws.proofs.Items.{here, signature_new}
use Rattle.cg_base.proofs.Sequences.{itself as same_name}

-- the position among the items of the signature at this position among the signatures
abbrev pub item_at : List Entry → ℕ → ℕ
item_at [] k = 0
item_at (signature at vars places ty ∷ es) zero = 0
item_at (signature at vars places ty ∷ es) (suc k) = suc (item_at es k)
item_at (synonym at params body ∷ es) k = suc (item_at es k)
item_at (abstract at params ∷ es) k = suc (item_at es k)
item_at (define at param body ∷ es) k = suc (item_at es k)

-- among the items of a program
module _ (entries : List Entry) where
  abbrev pub functions_in : List Entry → List Function
  functions_in es = filter_map (function_of_entry entries) es

  -- a function of this name that is found: its signature is the first of the name, among the items counted from c, and makes this function
  pub record IsFound (es : List Entry) (b c : ℕ) (n : List ℕ) (f : OfProgram) : Type 0 where
    pub at : At
    pub ty : Written
    pub index : ℕ
    pub numbered : f.position ≡ b + index
    pub first : signature_from c es n ≡ (c + item_at es index) ∷ []
    pub made : slice_get (functions_in es) index ≡ Some (function_of entries at f.vars ty)

  pub function_found : (es : List Entry) (b c : ℕ) (n : List ℕ) (f : OfProgram) → function_from b es n ≡ Some f → IsFound es b c n f
  function_found [] b c n f is = absurd (cc)
  function_found (signature at vars places ty ∷ es) b c n f is = pick (bytes_eq n at.name) refl is (function_found es (b + 1) (c + 1) n f)
    where
      pick : (test : Bool) → bytes_eq n at.name ≡ test → cond test (Some (record { position = b; vars = vars })) (function_from (b + 1) es n) ≡ Some f → (function_from (b + 1) es n ≡ Some f → IsFound es (b + 1) (c + 1) n f)
          → IsFound (signature at vars places ty ∷ es) b c n f
      pick true e found rest =
          let same : f ≡ record { position = b; vars = vars } = cc in
          record {
            at = at;
            ty = ty;
            index = 0;
            numbered = ap (λ (x : OfProgram). x.position) same ∙ omega arith;
            first = ap (λ t. cond t (c ∷ []) (signature_from (c + 1) es n)) e ∙ ap (λ k. k ∷ []) (omega arith);
            made = ap (λ (x : OfProgram). Some (function_of entries at x.vars ty)) (sym same);
          }
      pick false e found rest =
          let r = rest found in
          record {
            at = r.at;
            ty = r.ty;
            index = suc r.index;
            numbered = omega (arith, r.numbered);
            first = ap (λ t. cond t (c ∷ []) (signature_from (c + 1) es n)) e ∙ r.first ∙ ap (λ k. k ∷ []) (omega arith);
            made = r.made;
          }
  function_found (synonym at params body ∷ es) b c n f is =
      let r = function_found es b (c + 1) n f is in
      record { at = r.at; ty = r.ty; index = r.index; numbered = r.numbered; first = r.first ∙ ap (λ k. k ∷ []) (omega arith); made = r.made }
  function_found (abstract at params ∷ es) b c n f is =
      let r = function_found es b (c + 1) n f is in
      record { at = r.at; ty = r.ty; index = r.index; numbered = r.numbered; first = r.first ∙ ap (λ k. k ∷ []) (omega arith); made = r.made }
  function_found (define at param body ∷ es) b c n f is =
      let r = function_found es b (c + 1) n f is in
      record { at = r.at; ty = r.ty; index = r.index; numbered = r.numbered; first = r.first ∙ ap (λ k. k ∷ []) (omega arith); made = r.made }

  -- a function of the kernel: its signature, which is the first of its name
  pub record IsSigned (es : List Entry) (b : ℕ) (k : ℕ) (g : Function) : Type 0 where
    pub at : At
    pub vars : List Bound
    pub places : List Place
    pub ty : Written
    pub stands : slice_get es (item_at es k) ≡ Some (signature at vars places ty)
    pub is : g ≡ function_of entries at vars ty
    pub found : function_from b es at.name ≡ Some (record { position = b + k; vars = vars })

  -- a signature's name is none of those before it
  not_before : (es : List Entry) (before : Before) (i : ℕ) (at : At) (vars : List Bound) (places : List Place) (ty : Written) → faults_from entries before es ≡ [] → slice_get es i ≡ Some (signature at vars places ty)
      → is_among before.signatures at.name ≡ false
  not_before [] before i at vars places ty none stands = absurd (cc)
  not_before (e ∷ es) before zero at vars places ty none stands =
      let is : e ≡ signature at vars places ty = cc in
      signature_new entries before at vars places ty (ap (entry_faults entries before) (sym is) ∙ here entries before e es none)
  not_before (signature at' vars' places' ty' ∷ es) before (suc i) at vars places ty none stands =
      (or_parts (bytes_eq at.name at'.name) (is_among before.signatures at.name)
      (not_before es (declared_with before (signature at' vars' places' ty')) i at vars places ty (behind entries before (signature at' vars' places' ty') es none) stands)).1
  not_before (synonym at' params body ∷ es) before (suc i) at vars places ty none stands = not_before es (declared_with before (synonym at' params body)) i at vars places ty (behind entries before (synonym at' params body) es none) stands
  not_before (abstract at' params ∷ es) before (suc i) at vars places ty none stands = not_before es (declared_with before (abstract at' params)) i at vars places ty (behind entries before (abstract at' params) es none) stands
  not_before (define at' param body ∷ es) before (suc i) at vars places ty none stands = not_before es (declared_with before (define at' param body)) i at vars places ty (behind entries before (define at' param body) es none) stands

  pub function_signed : (es : List Entry) (before : Before) (b k : ℕ) (g : Function) → faults_from entries before es ≡ [] → slice_get (functions_in es) k ≡ Some g → IsSigned es b k g
  function_signed [] before b k g none made = absurd (cc)
  function_signed (signature at vars places ty ∷ es) before b zero g none made =
      let same : function_of entries at vars ty ≡ g = cc in
      record {
        at = at;
        vars = vars;
        places = places;
        ty = ty;
        stands = refl;
        is = sym same;
        found = ap (λ t. cond t (Some (record { position = b; vars = vars })) (function_from (b + 1) es at.name)) (same_name at.name) ∙ ap (λ i. Some (record { position = i; vars = vars })) (omega arith);
      }
  function_signed (signature at vars places ty ∷ es) before b (suc k) g none made =
      let rest = behind entries before (signature at vars places ty) es none in
      let r = function_signed es (declared_with before (signature at vars places ty)) (b + 1) k g rest made in
      record {
        at = r.at;
        vars = r.vars;
        places = r.places;
        ty = r.ty;
        stands = r.stands;
        is = r.is;
        found =
            ap (λ t. cond t (Some (record { position = b; vars = vars })) (function_from (b + 1) es r.at.name))
            (or_parts (bytes_eq r.at.name at.name) (is_among before.signatures r.at.name) (not_before es (declared_with before (signature at vars places ty)) (item_at es k) r.at r.vars r.places r.ty rest r.stands)).0
            ∙ r.found ∙ ap (λ i. Some (record { position = i; vars = r.vars })) (omega arith);
      }
  function_signed (synonym at params body ∷ es) before b k g none made =
      let r = function_signed es (declared_with before (synonym at params body)) b k g (behind entries before (synonym at params body) es none) made in
      record { at = r.at; vars = r.vars; places = r.places; ty = r.ty; stands = r.stands; is = r.is; found = r.found }
  function_signed (abstract at params ∷ es) before b k g none made =
      let r = function_signed es (declared_with before (abstract at params)) b k g (behind entries before (abstract at params) es none) made in
      record { at = r.at; vars = r.vars; places = r.places; ty = r.ty; stands = r.stands; is = r.is; found = r.found }
  function_signed (define at param body ∷ es) before b k g none made =
      let r = function_signed es (declared_with before (define at param body)) b k g (behind entries before (define at param body) es none) made in
      record { at = r.at; vars = r.vars; places = r.places; ty = r.ty; stands = r.stands; is = r.is; found = r.found }
