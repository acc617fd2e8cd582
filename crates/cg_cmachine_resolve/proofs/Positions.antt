-- Functions and lines, by the places where they stand.
use Rattle.std.proofs.Common.{◌≡◌, ℕ, zero, suc, ◌+◌, ◌<◌, Some, None, Option, List, [], ◌∷◌, ◌++◌, get_or, length, take, slice_get, drop, map, refl, sym, ap, ◌∙◌, subst, arith, MatchOption, IsSomeAnd, option_map, Bor, Bool, is_some}
use Rattle.std.proofs.lemmas.List.{take_more}
use Rattle.std.proofs.lemmas.Option.{get_or_from_slice_get, slice_get_within}
use Rattle.std.proofs.lemmas.Slice.Zip.{AllZip-left, AllZip-right}
use Rattle.std.specs.List.{All, AllByRecursion, AllZip}
use Rattle.cg_cmachine_layout.specs.declared.kind.Kind.{Kind}
use Rattle.cg_cmachine_layout.specs.Kinds.{layout_of}
use Rattle.cg_cmachine_resolve.specs.declared.code.Code.{Code}
use Rattle.cg_cmachine_resolve.specs.declared.code.Position.{Position}
use Rattle.cg_cmachine_resolve.specs.declared.line.Line.{Line}
use Rattle.cg_cmachine_resolve.specs.Lines.{IsAt, Stands, Whole}
use Rattle.cg_cmachine_resolve.specs.Queues.{AreBlocks, HasBody, HasPushed}
use Rattle.cg_cmachine_resolve.specs.Resolutions.{IsCode, IsFirst, IsHead, IsLine, Resolution, blocks_in, lines_at, sources}
use Rattle.cg_cmachine_resolve.specs.Scopes.{Scope, scope_of, total}
use Rattle.cg_cmachine_resolve.proofs.Bodies.{all_of, zip_push}
use Rattle.cg_cmachine_resolve.proofs.Callees.{is_at}
use Rattle.cg_cmachine_def.specs.Layouts.{layout}
use Rattle.cg_ctree.specs.declared.tree.CBody.{CBody}
use Rattle.cg_ctree.specs.declared.tree.CDecl.{CDecl}
use Rattle.cg_ctree.specs.declared.tree.CFun.{CFun}
use Rattle.cg_ctree.specs.declared.tree.CStmt.{CStmt}
use Rattle.cg_ctree.specs.declared.tree.CStruct.{CStruct}

-- ---- what is told of a function

module _ {A : Type 0} (items : A → List Line) (w : Whole) (vs : Scope) where
  sources_of : (all bs : List (List CStmt)) (xs : List A) → AreBlocks w vs all bs (map items xs) → map (λ x. sources (items x)) xs ≡ bs
  sources_of all [] [] h = refl
  sources_of all [] (x ∷ xs) h = absurd h
  sources_of all (b ∷ bs) [] h = absurd h
  sources_of all (b ∷ bs) (x ∷ xs) h = ap (λ z. z ∷ map (λ x. sources (items x)) xs) h.0.same ∙ ap (λ z. b ∷ z) (sources_of all bs xs h.1)

  stand_of : (all bs : List (List CStmt)) (xs : List A) → AreBlocks w vs all bs (map items xs) → AllByRecursion (λ x. All (Stands w vs all) (items x)) xs
  stand_of all [] [] h = tt
  stand_of all [] (x ∷ xs) h = absurd h
  stand_of all (b ∷ bs) [] h = absurd h
  stand_of all (b ∷ bs) (x ∷ xs) h = (all_of (Stands w vs all) (items x) h.0.stand, stand_of all bs xs h.1)

  body_first : (body : Option CBody) (xs : List A) → HasBody w vs body (map items xs) → IsFirst body (map (λ x. sources (items x)) xs)
  body_first None xs h = tt
  body_first (Some b) xs h = ap (λ bs. get_or bs 0 []) (sources_of h.blocks h.blocks xs h.resolved) ∙ h.first

  none_of : (P : A → Type 0) (xs : List A) → map items xs ≡ [] → All P xs
  none_of P [] e = all_of P [] tt
  none_of P (x ∷ xs) e = absurd (cc)

  body_lines : (body : Option CBody) (xs : List A) → HasBody w vs body (map items xs) → All (λ x. All (Stands w vs (map (λ x. sources (items x)) xs)) (items x)) xs
  body_lines None xs h = none_of (λ x. All (Stands w vs (map (λ x. sources (items x)) xs)) (items x)) xs h
  body_lines (Some b) xs h =
      subst (λ bs. All (λ x. All (Stands w vs bs) (items x)) xs) (sym (sources_of h.blocks h.blocks xs h.resolved)) (all_of (λ x. All (Stands w vs h.blocks) (items x)) xs (stand_of h.blocks h.blocks xs h.resolved))

pub is_code : (w : Whole) (f : CFun) (c : Code) → IsHead w f c.kind c.params.items c.slots c.has_body → HasBody w (scope_of w.program.structs f) f.body (map (λ lines. lines.items) c.blocks.items) → IsCode w f c
is_code w f c head h = record {
  head = head;
  first = body_first (λ lines. lines.items) w (scope_of w.program.structs f) f.body c.blocks.items h;
  lines = body_lines (λ lines. lines.items) w (scope_of w.program.structs f) f.body c.blocks.items h;
}

-- a turn of the loop over functions
pub codes_turn : (w : Whole) (fs : List CFun) (i : ℕ) (f : CFun) (codes more : List Code) → i < length fs → f ≡ get_or fs i f → AllZip (IsCode w) (take i fs) codes → HasPushed (IsCode w f) codes more
    → AllZip (IsCode w) (take (i + 1) fs) more
codes_turn w fs i f codes more within item before pushed =
    subst (λ l. AllZip (IsCode w) l more) (sym (take_more fs i f within ∙ ap (λ y. take i fs ++ y ∷ []) (sym item)))
    (subst (AllZip (IsCode w) (take i fs ++ f ∷ [])) (sym pushed.behind) (zip_push (IsCode w) f pushed.last (take i fs) codes before pushed.holds))

-- ---- where they stand

all_at : {A : Type 0} (P : A → Type 0) (xs : List A) (i : ℕ) (x : A) → All P xs → slice_get xs i ≡ Some x → P x
all_at P xs i x h e = subst P (get_or_from_slice_get xs i x x e) (h i x (slice_get_within xs i x e))

map_at : {A B : Type 0} (g : A → List B) (xs : List A) (i : ℕ) (x : A) → slice_get xs i ≡ Some x → get_or (map g xs) i [] ≡ g x
map_at g [] i x e = absurd (cc)
map_at g (y ∷ xs) zero x e = let is : y ≡ x = cc in ap g is
map_at g (y ∷ xs) (suc i) x e = map_at g xs i x e

map_past : {A B : Type 0} (g : A → List B) (xs : List A) (i : ℕ) → slice_get xs i ≡ None → get_or (map g xs) i [] ≡ []
map_past g [] i e = refl
map_past g (y ∷ xs) zero e = absurd (cc)
map_past g (y ∷ xs) (suc i) e = map_past g xs i e

line_here : (ls : List Line) (i : ℕ) (line : Line) → slice_get ls i ≡ Some line → drop i (sources ls) ≡ line.source.now ∷ drop (i + 1) (sources ls)
line_here [] i line e = absurd (cc)
line_here (l ∷ ls) zero line e = let is : l ≡ line = cc in ap (λ l. l.source.now ∷ sources ls) is
line_here (l ∷ ls) (suc i) line e = let step : suc i + 1 ≡ suc (i + 1) = omega arith in rw step (line_here ls i line e)

line_past : (ls : List Line) (i : ℕ) → slice_get ls i ≡ None → drop i (sources ls) ≡ []
line_past [] zero e = refl
line_past [] (suc i) e = refl
line_past (l ∷ ls) zero e = absurd (cc)
line_past (l ∷ ls) (suc i) e = line_past ls i e

drop_none : (i : ℕ) → ◌≡◌ {A = List CStmt} (drop i []) []
drop_none zero = refl
drop_none (suc i) = refl

-- lists in a row
module _ {A : Type 0} (items : A → List Line) where
  pub sources_at : (xs : List A) (i : ℕ) → get_or (map (λ x. sources (items x)) xs) i [] ≡ sources (get_or (map items xs) i [])
  sources_at [] i = refl
  sources_at (x ∷ xs) zero = refl
  sources_at (x ∷ xs) (suc i) = sources_at xs i

module _ {A B : Type 0} (P : B → Type 0) (items : A → List B) where
  within_all : (xs : List A) (i k : ℕ) (y : B) → All (λ x. All P (items x)) xs → slice_get (get_or (map items xs) i []) k ≡ Some y → P y
  within_all [] i k y h e = absurd (cc)
  within_all (x ∷ xs) zero k y h e = all_at P (items x) k y (h zero x (omega arith)) e
  within_all (x ∷ xs) (suc i) k y h e = within_all xs i k y (λ j d less. h (suc j) d (omega (arith, less))) e

pub item_in : {A B : Type 0} (items : A → List B) (xs : List A) (i k : ℕ) (x : A) → slice_get xs i ≡ Some x → slice_get (items x) k ≡ slice_get (get_or (map items xs) i []) k
item_in items xs i k x e = ap (λ l. slice_get l k) (sym (map_at items xs i x e))

pub item_past : {A B : Type 0} (items : A → List B) (xs : List A) (i k : ℕ) → slice_get xs i ≡ None → None ≡ slice_get (get_or (map items xs) i []) k
item_past items xs i k e = ap (λ l. slice_get l k) (sym (map_past items xs i e))

module _ (w : Whole) (codes : List Code) where
  abbrev resolved : Resolution
  resolved = record { whole = w; blocks = map (λ code. map (λ lines. sources lines.items) code.blocks.items) codes }

  function_of_code : (i : ℕ) (c : Code) → AllZip (IsCode w) w.program.funs codes → slice_get codes i ≡ Some c → IsSomeAnd (slice_get w.program.funs i) (λ f. IsCode w f c)
  function_of_code i c all e = pick (slice_get codes i) e (AllZip-right (IsCode w) w.program.funs codes all i)
    where
      pick : (o : Option Code) → o ≡ Some c → MatchOption o (Unit {0}) (λ y. IsSomeAnd (slice_get w.program.funs i) (λ x. IsCode w x y)) → IsSomeAnd (slice_get w.program.funs i) (λ f. IsCode w f c)
      pick None e h = absurd (cc)
      pick (Some d) e h = let is : d ≡ c = cc in subst (λ d. IsSomeAnd (slice_get w.program.funs i) (λ f. IsCode w f d)) is h

  -- what holds of the function at a place
  at_some : (i : ℕ) (P Q : CFun → Type 0) → IsSomeAnd (slice_get w.program.funs i) P → ((f : CFun) → P f → Q f) → IsAt w i Q
  at_some i P Q h go = pick (slice_get w.program.funs i) refl h
    where
      pick : (o : Option CFun) → slice_get w.program.funs i ≡ o → IsSomeAnd o P → IsAt w i Q
      pick None e h = absurd h
      pick (Some f) e h = is_at w i Q f e (go f h)

  line_at : (at : Position) (c : Code) (line : Line) → AllZip (IsCode w) w.program.funs codes → slice_get codes at.function ≡ Some c
      → slice_get (get_or (map (λ lines. lines.items) c.blocks.items) at.block []) at.index ≡ Some line → IsLine resolved at line
  line_at at c line all e g =
      let blocks : blocks_in resolved at.function ≡ map (λ lines. sources lines.items) c.blocks.items = map_at (λ code. map (λ lines. sources lines.items) code.blocks.items) codes at.function c e in
      let block = ap (λ bs. get_or bs at.block []) blocks ∙ sources_at (λ lines. lines.items) c.blocks.items at.block in
      record {
        here = ap (drop at.index) block ∙ line_here (get_or (map (λ lines. lines.items) c.blocks.items) at.block []) at.index line g ∙ ap (λ b. line.source.now ∷ drop (at.index + 1) b) (sym block);
        stands = at_some at.function (λ f. IsCode w f c) (λ f. Stands w (scope_of w.program.structs f) (blocks_in resolved at.function) line) (function_of_code at.function c all e)
            (λ f is. subst (λ bs. Stands w (scope_of w.program.structs f) bs line) (sym blocks)
            (within_all (Stands w (scope_of w.program.structs f) (map (λ lines. sources lines.items) c.blocks.items)) (λ lines. lines.items) c.blocks.items at.block at.index line is.lines g));
      }

  pub head_at : (i : ℕ) (c : Code) → AllZip (IsCode w) w.program.funs codes → slice_get codes i ≡ Some c → IsAt w i (λ f. IsHead w f c.kind c.params.items c.slots c.has_body)
  head_at i c all e = at_some i (λ f. IsCode w f c) (λ f. IsHead w f c.kind c.params.items c.slots c.has_body) (function_of_code i c all e) (λ f is. is.head)

  pub first_at : (i : ℕ) (c : Code) → AllZip (IsCode w) w.program.funs codes → slice_get codes i ≡ Some c → IsAt w i (λ f. IsFirst f.body (blocks_in resolved i))
  first_at i c all e =
      at_some i (λ f. IsCode w f c) (λ f. IsFirst f.body (blocks_in resolved i)) (function_of_code i c all e)
      (λ f is. subst (IsFirst f.body) (sym (map_at (λ code. map (λ lines. sources lines.items) code.blocks.items) codes i c e)) is.first)

  pub no_head : (i : ℕ) → AllZip (IsCode w) w.program.funs codes → slice_get codes i ≡ None → slice_get w.program.funs i ≡ None
  no_head i all e = pick (slice_get w.program.funs i) refl (AllZip-left (IsCode w) w.program.funs codes all i)
    where
      pick : (o : Option CFun) → slice_get w.program.funs i ≡ o → MatchOption o (Unit {0}) (λ x. IsSomeAnd (slice_get codes i) (IsCode w x)) → slice_get w.program.funs i ≡ None
      pick None f h = f
      pick (Some x) f h = absurd (subst (λ o. IsSomeAnd o (IsCode w x)) e h)

  pub line_found : (at : Position) (c : Code) (r : Option (Bor Line)) → AllZip (IsCode w) w.program.funs codes → slice_get codes at.function ≡ Some c
      → option_map (λ line. line.now) r ≡ slice_get (get_or (map (λ lines. lines.items) c.blocks.items) at.block []) at.index
      → MatchOption r (lines_at resolved at ≡ []) (λ line. IsLine resolved at line.now)
  line_found at c None all e f =
      ap (λ bs. drop at.index (get_or bs at.block [])) (map_at (λ code. map (λ lines. sources lines.items) code.blocks.items) codes at.function c e)
      ∙ ap (drop at.index) (sources_at (λ lines. lines.items) c.blocks.items at.block) ∙ line_past (get_or (map (λ lines. lines.items) c.blocks.items) at.block []) at.index (sym f)
  line_found at c (Some x) all e f = line_at at c x.now all e (sym f)

  pub no_function : (at : Position) → slice_get codes at.function ≡ None → lines_at resolved at ≡ []
  no_function at e =
      ap (λ bs. drop at.index (get_or bs at.block [])) (map_past (λ code. map (λ lines. sources lines.items) code.blocks.items) codes at.function e) ∙ drop_none at.index

pub head_of : (w : Whole) (ss : List CStruct) (f : CFun) (ds : List CDecl) (kind : Kind) (params : List Kind) (slots : ℕ) (has_body : Bool) → ss ≡ w.program.structs → ds ≡ f.params
    → layout_of kind ≡ layout ss f.ty → map layout_of params ≡ map (λ d. layout ss d.ty) ds → slots ≡ total (scope_of ss f) → has_body ≡ is_some f.body → IsHead w f kind params slots has_body
head_of w ss f ds kind params slots has_body e g result takes many defined = record {
  result = result ∙ ap (λ ss. layout ss f.ty) e;
  takes = takes ∙ ap (map (λ d. layout ss d.ty)) g ∙ ap (λ ss. map (λ d. layout ss d.ty) f.params) e;
  many = many ∙ ap (λ ss. total (scope_of ss f)) e;
  defined = defined;
}
