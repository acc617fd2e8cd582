-- The kernel of a program of its shape, without a fault of names, whose items stand in an order, is lawful.
use Rattle.std.proofs.Common.{◌≡◌, ℕ, ◌≤◌, List, [], ◌∷◌, ◌++◌, map, length, get_or, Option, Some, None, refl, sym, ap, ◌∙◌, subst as carry, arith}
use Rattle.std.proofs.lemmas.List.{length-map}
use Rattle.std.proofs.lemmas.List.Elements.{All-contains}
use Rattle.std.proofs.lemmas.Option.{slice_get-get_or, slice_get-map}
use Rattle.std.specs.List.{Contains, slice_get}
use Rattle.std.specs.Option.{option_map}
use Rattle.cg_graphs.specs.Circles.{IsOrder, Mentions, NoCircle, Reaches, mentioned, onward}
use Rattle.cg_graphs.proofs.Laws.{order_has_no_circle}
use Rattle.cg_core.specs.Kernels.{Function}
use Rattle.cg_core_def.specs.Lawful.{IsLawfulBody, IsLawfulFunction, IsLawfulKernel, IsLawfulTerm, IsLawfulType, body_mentions, kernel_mentions, term_mentions}
use Rattle.cg_surface.specs.Programs.{Entry, define, signature}
use Rattle.cg_resolve_def.specs.Declared.{Defined, OfProgram, definition_named, function_named}
use Rattle.cg_resolve_def.specs.Desugar.{body_of, functions_of, parts_limit}
use Rattle.cg_resolve_def.specs.Expand.{bodies, type_in}
use Rattle.cg_resolve_def.specs.Faults.{again, ats_of, beforehand, bound, expr_faults, pattern_faults, program_faults, twins, type_faults, unsigned, var_names, vars_named}
use Rattle.cg_resolve_def.specs.Mentions.{all_of, defined_mentions, entry_mentions, expr_mentions, mentions, signature_from}
use Rattle.cg_resolve_def.specs.Takes.{widest_part}
use Rattle.cg_resolve_def.specs.Terms.{body_term}
use Rattle.cg_resolve_def.proofs.Faultless.{none_right}
use Rattle.cg_resolve_def.proofs.Solved.{among_all}
use Rattle.cg_resolve_laws.specs.Laws.{DesugaredIsLawful}
use Rattle.cg_resolve_def.specs.Shaped.{IsShaped}
use Rattle.cg_resolve_laws.proofs.Bodies.{all_sound}
use Rattle.cg_resolve_laws.proofs.Expanded.{type_lawful}
use Rattle.cg_resolve_laws.proofs.Items.{IsDefinition, IsWithout, definition_found, entry_narrow, entry_shaped, without}
use Rattle.cg_resolve_laws.proofs.Positions.{IsFound, IsSigned, function_found, function_signed, item_at}
use Rattle.cg_resolve_laws.proofs.Proper.{IsProper}
use Rattle.cg_resolve_laws.proofs.Walk.{body_proper}

module _ (entries : List Entry) where
  -- how many type arguments each function takes
  abbrev arities : List ℕ
  arities = map (λ f. length f.vars) (functions_of entries)

  -- a function whose name is among these stands at this position
  record IsMentioned (ms : List (List ℕ)) (j : ℕ) : Type 0 where
    name : List ℕ
    function : OfProgram
    among : Contains ms name
    found : function_named entries name ≡ Some function
    is : function.position ≡ j

  -- a function that is found takes as many as it has type variables
  takes : (n : List ℕ) (f : OfProgram) → function_named entries n ≡ Some f → slice_get arities f.position ≡ Some (length f.vars)
  takes n f is =
      let r = function_found entries entries 0 0 n f is in
      ap (slice_get arities) (r.numbered ∙ omega arith) ∙ slice_get-map (λ (g : Function). length g.vars) (functions_of entries) r.index
      ∙ ap (option_map (λ (g : Function). length g.vars)) r.made

  module _ (order : List ℕ) (shaped : IsShaped entries) (none : program_faults entries ≡ []) (is : IsOrder (mentions entries) order) (narrow : widest_part entries ≤ parts_limit) where
    -- a function of the kernel has a signature
    signed : (k : ℕ) (g : Function) → slice_get (functions_of entries) k ≡ Some g → IsSigned entries entries 0 k g
    signed k g made = function_signed entries entries beforehand 0 k g none made

    -- the term of its body is proper
    term_made : (k : ℕ) (g : Function) (s : IsSigned entries entries 0 k g) (d : Defined) → definition_named entries s.at.name ≡ Some d
        → IsProper arities (length (var_names s.vars)) (IsMentioned (expr_mentions (bound d.param) d.body)) 1 (body_term entries (bodies entries) (var_names s.vars) d.param d.body)
    term_made k g s d defined =
        let found : IsDefinition entries s.at.name d = definition_found entries s.at.name d defined in
        let item : IsWithout entries (define found.at d.param d.body) = without entries entries beforehand found.position (define found.at d.param d.body) none found.stands in
        let shape = entry_shaped entries found.position (define found.at d.param d.body) shaped found.stands in
        let width = entry_narrow entries found.position (define found.at d.param d.body) narrow found.stands in
        let vars : vars_named (function_named entries found.at.name) ≡ var_names s.vars = ap (λ n. vars_named (function_named entries n)) (sym found.named) ∙ ap vars_named s.found in
        let clean : expr_faults entries (vars_named (function_named entries found.at.name)) (bound d.param) d.body ≡ [] =
        none_right (unsigned found.at.place (function_named entries found.at.name) ++ again item.before.definitions found.at.place found.at.name ++ pattern_faults d.param)
        (expr_faults entries (vars_named (function_named entries found.at.name)) (bound d.param) d.body) item.none in
        body_proper entries (bodies entries) (var_names s.vars) arities (λ m. Contains (expr_mentions (bound d.param) d.body) m) (IsMentioned (expr_mentions (bound d.param) d.body)) (all_sound entries shaped none narrow order is) takes
        (λ n f among has. record { name = n; function = f; among = among; found = has; is = refl })
        d.param d.body shape.0 (ap (λ l. expr_faults entries l (bound d.param) d.body) (sym vars) ∙ clean) shape.1 (omega (arith, width)) (record { at = λ m has. has })

    -- ---- functions are lawful

    type_stands : (k : ℕ) (g : Function) (s : IsSigned entries entries 0 k g) → IsLawfulType (length s.vars) (type_in entries (var_names s.vars) s.ty)
    type_stands k g s =
        let item : IsWithout entries (signature s.at s.vars s.places s.ty) = without entries entries beforehand (item_at entries k) (signature s.at s.vars s.places s.ty) none s.stands in
        carry (λ n. IsLawfulType n (type_in entries (var_names s.vars) s.ty)) (length-map s.vars (λ v. v.name))
        (type_lawful entries (bodies entries) (var_names s.vars) s.ty
        (none_right (again item.before.signatures s.at.place s.at.name ++ twins [] (ats_of s.vars s.places)) (type_faults entries (var_names s.vars) s.ty) item.none)
        (entry_shaped entries (item_at entries k) (signature s.at s.vars s.places s.ty) shaped s.stands).1
        (entry_narrow entries (item_at entries k) (signature s.at s.vars s.places s.ty) narrow s.stands)
        (all_sound entries shaped none narrow order is _))

    body_stands : (k : ℕ) (g : Function) (s : IsSigned entries entries 0 k g) (o : Option Defined) → definition_named entries s.at.name ≡ o → IsLawfulBody arities (length s.vars) (body_of entries (var_names s.vars) o)
    body_stands k g s None defined = tt
    body_stands k g s (Some d) defined =
        carry (λ n. IsLawfulTerm arities n 1 (body_term entries (bodies entries) (var_names s.vars) d.param d.body)) (length-map s.vars (λ v. v.name)) (term_made k g s d defined).lawful

    function_stands : (k : ℕ) (g : Function) → slice_get (functions_of entries) k ≡ Some g → IsLawfulFunction arities g
    function_stands k g made =
        let s = signed k g made in
        carry (IsLawfulFunction arities) (sym s.is) (record { ty = type_stands k g s; body = body_stands k g s (definition_named entries s.at.name) refl })

    -- ---- no function mentions itself

    -- what a body mentions, the signature's item mentions
    body_mentioned : (k : ℕ) (g : Function) (s : IsSigned entries entries 0 k g) (o : Option Defined) → definition_named entries s.at.name ≡ o → (j : ℕ) → Contains (body_mentions (body_of entries (var_names s.vars) o)) j
        → IsMentioned (defined_mentions o) j
    body_mentioned k g s None defined j has = absurd (omega (arith, has.1))
    body_mentioned k g s (Some d) defined j has =
        All-contains (IsMentioned (expr_mentions (bound d.param) d.body)) (term_mentions (body_term entries (bodies entries) (var_names s.vars) d.param d.body)) j (term_made k g s d defined).mentions has

    item_mentions : (k j : ℕ) → Mentions (kernel_mentions (functions_of entries)) k j → Mentions (mentions entries) (item_at entries k) (item_at entries j)
    item_mentions k j m = with_function (slice_get (functions_of entries) k) refl
      where
        at : (g : Function) (o : Option Function) → o ≡ Some g → option_map (λ (f : Function). body_mentions f.body) o ≡ Some m.targets → Contains (body_mentions g.body) j
        at g o is said =
            let same : body_mentions g.body ≡ m.targets = (let whole : Some (body_mentions g.body) ≡ Some m.targets = sym (ap (option_map (λ (f : Function). body_mentions f.body)) is) ∙ said in cc) in
            carry (λ l. Contains l j) (sym same) m.among

        with_function : (o : Option Function) → slice_get (functions_of entries) k ≡ o → Mentions (mentions entries) (item_at entries k) (item_at entries j)
        with_function None e =
            absurd (let no : None ≡ Some m.targets = sym (ap (option_map (λ (f : Function). body_mentions f.body)) e) ∙ sym (slice_get-map (λ (f : Function). body_mentions f.body) (functions_of entries) k) ∙ m.at in cc)
        with_function (Some g) e =
            let s = signed k g e in
            let has : Contains (body_mentions g.body) j = at g (slice_get (functions_of entries) k) e (sym (slice_get-map (λ (f : Function). body_mentions f.body) (functions_of entries) k) ∙ m.at) in
            let named = body_mentioned k g s (definition_named entries s.at.name) refl j (carry (λ (f : Function). Contains (body_mentions f.body) j) s.is has) in
            let r : IsFound entries entries 0 0 named.name named.function = function_found entries entries 0 0 named.name named.function named.found in
            let place : r.index ≡ j = omega (arith, r.numbered, named.is) in
            let first : signature_from 0 entries named.name ≡ item_at entries j ∷ [] = r.first ∙ ap (λ i. i ∷ []) (omega arith ∙ ap (item_at entries) place) in
            record {
              targets = all_of (signature_from 0 entries) (defined_mentions (definition_named entries s.at.name));
              at = slice_get-map (entry_mentions entries) entries (item_at entries k) ∙ ap (option_map (entry_mentions entries)) s.stands;
              among =
                  among_all (signature_from 0 entries) (defined_mentions (definition_named entries s.at.name)) (item_at entries j) named.among.0 named.name named.among.1 named.among.2
                  (carry (λ l. Contains l (item_at entries j)) (sym first) (0, omega arith, refl));
            }

    reached : (k j : ℕ) → Reaches (kernel_mentions (functions_of entries)) k j → Reaches (mentions entries) (item_at entries k) (item_at entries j)
    reached k _ (mentioned j m) = mentioned (item_at entries j) (item_mentions k j m)
    reached k _ (onward j l r m) = onward (item_at entries j) (item_at entries l) (reached k j r) (item_mentions j l m)

    total : NoCircle (kernel_mentions (functions_of entries))
    total k r = order_has_no_circle (mentions entries) order is (item_at entries k) (reached k k r)

    pub kernel_lawful : IsLawfulKernel (functions_of entries)
    kernel_lawful = record {
      functions_stand = λ k d lt. function_stands k (get_or (functions_of entries) k d) (slice_get-get_or (functions_of entries) k d lt);
      total = total;
    }

pub desugared_lawful : DesugaredIsLawful
desugared_lawful entries order shaped none is narrow = kernel_lawful entries order shaped none is narrow
