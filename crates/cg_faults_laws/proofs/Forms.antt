-- The events of each form but operators and records tell what its conditions and those of its parts say, in the order of reading.
use Rattle.std.proofs.Common.{◌≡◌, ℕ, suc, Bool, true, false, Option, Some, None, List, [], ◌∷◌, ◌++◌, length, slice_get, refl, subst, arith}
use Rattle.std.proofs.lemmas.List.{length-map}
use Rattle.cg_base.specs.declared.kind.Kinds.{Kinds}
use Rattle.cg_base.specs.declared.place.Place.{Place}
use Rattle.cg_base.specs.Types as types
use Rattle.cg_base.specs.declared.fun.Fun.{Fun}
use Rattle.cg_core.specs.declared.at.At.{At}
use Rattle.cg_core.specs.declared.term.Seen.{Seen}
use Rattle.cg_core.specs.Kernels.{Function, Body}
use Rattle.cg_core.specs.Terms.{Tree, term, Shape, var, unit, bool, lit, fun, app, lets, let_bang, if_else, con, case_of, esac, member, take_field, put, cast, annot, Arg}
use Rattle.cg_faults.specs.declared.rule.Rule.TheVariants.{K2, K4, K6, K7, T1, T2, T4, T5, T6, T7, T8, T9, T10, T11, T14}
use Rattle.cg_typing.specs.Contexts.{push, among}
use Rattle.cg_typing.specs.Accepted.{kinds_of_vars}
use Rattle.cg_faults.specs.Events.{Before, after, after_seen, upto, judged, scope_end, observer_events, events}
use Rattle.cg_faults.specs.Fails.{root_of}
use Rattle.cg_typing.specs.Functions.{asked_by}
use Rattle.cg_typing.specs.Parts.{field_in, alternative_in, held, with_part}
use Rattle.cg_faults.specs.Plain.{plain, mentioned}
use Rattle.cg_faults.specs.Rule.{rule}
use Rattle.cg_typing.specs.Rules.{note_at, second_branch}
use Rattle.cg_faults.specs.Sites.{bound_at, Entry, Site, observe, parts}
use Rattle.cg_kinds.specs.Kinds.{kinds}
use Rattle.cg_check_laws.proofs.Basics.{length_push}
use Rattle.cg_faults_laws.proofs.Flagged.{Back, Flags, back_push, flagged_here, flagged_branch, flagged_seen, flagged_behind}
use Rattle.cg_faults_laws.proofs.Parts.{site_of}
use Rattle.cg_faults_laws.proofs.Rows.{entry_types, types_push, types_observed, at_last, at_second, tells_noted, tells_meets, tells_literal, tells_arguments}
use Rattle.cg_faults_laws.proofs.Scopes.{push_old}
use Rattle.cg_faults_laws.proofs.Stages.{T, part_told, stop, told_off, last_told, StandAt, TellsSite, TellsTree, TellsShape, in_binding, first_stands, behind_first, second_stands, bound_stands}
use Rattle.cg_faults_laws.proofs.Standing.{OccurrenceRows}
use Rattle.cg_faults_laws.proofs.Tells.{tells_append, tells_one, tells_cons, tells_nothing}

-- a scope with one variable more, and with two
back_one : (scope : List Entry) (one : Entry) → Back scope (push scope one)
back_one scope one = back_push scope scope one (omega arith) (λ i e at l. at)

back_two : (scope : List Entry) (one two : Entry) → Back scope (push (push scope one) two)
back_two scope one two = back_push scope (push scope one) two (omega (arith, length_push scope one)) (back_one scope one)

module _ (functions : List Function) (function : Function) (body : Body) (types_in : ℕ) (rows : OccurrenceRows functions function body types_in) where
  abbrev vars : List Kinds
  vars = kinds_of_vars function

  abbrev root : Site
  root = root_of function body

  abbrev Stands : Site → Before → Type 0
  Stands = StandAt functions function body types_in

  abbrev Tells' : Tree Place → Type 0
  Tells' = TellsTree functions function body types_in

  abbrev Form' : Place → Shape Place → Type 0
  Form' = TellsShape functions function body types_in

  -- the first part, and a second one in the same scope
  in_first : (s : Site) (b : Before) → Stands s b → (p : Site) → slice_get (parts functions s) 0 ≡ Some p → p.scope ≡ s.scope → Stands p b
  in_first = first_stands functions function body types_in rows

  in_second : (s : Site) (b : Before) → Stands s b → (q p : Site) → slice_get (parts functions s) 0 ≡ Some q → q.scope ≡ s.scope → slice_get (parts functions s) 1 ≡ Some p → p.scope ≡ s.scope
      → Stands p (after b q.node)
  in_second = second_stands functions function body types_in rows

  in_bound : (s : Site) (b : Before) → Stands s b → (j : ℕ) (p : Site) (n : ℕ) (flags : Before) → slice_get (parts functions s) j ≡ Some p → Back s.scope p.scope → n ≡ length s.scope → Flags functions s b j flags
      → Stands p (upto n flags)
  in_bound = bound_stands functions function body types_in rows

  pub tells_app : (a : Place) (f x : Tree Place) → Tells' f → Tells' x → Form' a (app f x)
  tells_app a f x tf tx path scope dir b st =
      let s = site_of path scope dir (term a (app f x)) in
      part_told functions vars root s _ 0 _ [] _ _ refl refl (tells_nothing functions root) (tf (push path 0) scope None b (in_first s b st _ refl refl))
      (part_told functions vars root s _ 1 _ (judged T4 (note_at f) _ ∷ []) _ _ refl refl (tells_noted functions root (rule T4) f _) (tx (push path 1) scope _ (after b f) (in_second s b st _ _ refl refl refl refl))
      (stop functions vars root s 2 _ _ refl (omega arith) refl (tells_meets functions root dir a _)))

  pub tells_var : (a : Place) (i : ℕ) → Form' a (var i)
  tells_var a i path scope dir b st =
      let s = site_of path scope dir (term a (var i)) in
      stop functions vars root s 0 _ _ refl (omega arith) refl (tells_append functions root (judged K4 a _ ∷ []) _ _ _ (rows.tells_variable s b st i refl a) (tells_meets functions root dir a _))

  pub tells_unit : (a : Place) → Form' a unit
  tells_unit a path scope dir b st = stop functions vars root (site_of path scope dir (term a unit)) 0 _ _ refl (omega arith) refl (tells_meets functions root dir a types.unit)

  pub tells_bool : (a : Place) (v : Bool) → Form' a (bool v)
  tells_bool a v path scope dir b st = stop functions vars root (site_of path scope dir (term a (bool v))) 0 _ _ refl (omega arith) refl (tells_meets functions root dir a types.bool)

  pub tells_lit : (a : Place) (v : Option ℕ) → Form' a (lit v)
  tells_lit a v path scope dir b st = stop functions vars root (site_of path scope dir (term a (lit v))) 0 _ _ refl (omega arith) refl (tells_literal functions root dir a v)

  pub tells_fun : (a : Place) (f : Fun) (args : List Arg) → Form' a (fun f args)
  tells_fun a f args path scope dir b st =
      stop functions vars root (site_of path scope dir (term a (fun f args))) 0 _ _ refl (omega arith) refl
      (tells_append functions root _ _ _ _ (tells_arguments functions root vars (asked_by functions f) args) (tells_meets functions root dir a (mentioned functions f args)))

  pub tells_let : (a v : Place) (e k : Tree Place) → Tells' e → Tells' k → Form' a (lets v e k)
  tells_let a v e k te tk path scope dir b st =
      let s = site_of path scope dir (term a (lets v e k)) in
      let p = entry_types scope in
      let one : Entry = record { variable = bound_at path 0; ty = plain functions p e; observed = false } in
      let k_st = in_bound s b st 1 _ (length p) (after b e) refl (back_one scope one) (length-map scope (λ e. e.ty)) (behind_first functions function body types_in rows s b st _ refl refl) in
      part_told functions vars root s _ 0 _ [] _ _ refl refl (tells_nothing functions root) (te (push path 0) scope None b (in_first s b st _ refl refl))
      (part_told functions vars root s _ 1 _ [] _ _ refl refl (tells_nothing functions root) (in_binding functions function body types_in k tk (push path 1) scope one dir _ k_st)
      (stop functions vars root s 2 _ _ refl (omega arith) refl (rows.tells_scope s b st 1 _ refl _ k_st 0 (length p) one (at_last scope one) refl refl v)))

  pub tells_let_bang : (a v : Place) (os : List Seen) (e k : Tree Place) → Tells' e → Tells' k → Form' a (let_bang os v e k)
  tells_let_bang a v os e k te tk path scope dir b st =
      let s = site_of path scope dir (term a (let_bang os v e k)) in
      let p = entry_types scope in
      let inner = observe (λ i. among i os) scope in
      let one : Entry = record { variable = bound_at path 0; ty = plain functions (entry_types inner) e; observed = false } in
      let e_st = rows.part_stands s b st 0 (site_of (push path 0) inner None e) refl b (flagged_seen functions s b os _ refl) in
      let k_st = in_bound s b st 1 (site_of (push path 1) (push scope one) dir k) (length p) (after_seen os b e) refl (back_one scope one) (length-map scope (λ e. e.ty)) (flagged_behind functions s b os (site_of (push path 0) inner None e) refl refl) in
      subst (λ q. T functions vars root s 0 (observer_events functions vars p b os ++ (events functions vars q b None e
      ++ (judged K2 (note_at e) (kinds vars (plain functions q e)).escape
      ∷ (events functions vars (push p (plain functions q e)) (upto (length p) (after_seen os b e)) dir k ++ scope_end functions vars (length p) v (plain functions q e) k)))))
      (types_observed (λ i. among i os) scope)
      (part_told functions vars root s _ 0 _ (observer_events functions vars p b os) _ _ refl refl (rows.tells_observers s b st os v e k refl) (te (push path 0) inner None b e_st)
      (part_told functions vars root s _ 1 _ (judged K2 (note_at e) _ ∷ []) _ _ refl refl (tells_noted functions root (rule K2) e _) (in_binding functions function body types_in k tk (push path 1) scope one dir _ k_st)
      (stop functions vars root s 2 _ _ refl (omega arith) refl (rows.tells_scope s b st 1 _ refl _ k_st 0 (length p) one (at_last scope one) refl refl v))))

  pub tells_if : (a : Place) (c x y : Tree Place) → Tells' c → Tells' x → Tells' y → Form' a (if_else c x y)
  tells_if a c x y tc tx ty path scope dir b st =
      let s = site_of path scope dir (term a (if_else c x y)) in
      let x_st = in_second s b st _ (site_of (push path 1) scope dir x) refl refl refl refl in
      let y_site = site_of (push path 2) scope (second_branch dir (plain functions (entry_types scope) x)) y in
      let y_st = rows.part_stands s b st 2 y_site refl (after b c)
      (flagged_here functions s b 2 y_site (after b c) refl (flagged_branch functions s b 1 (after b c) (omega arith) tt (behind_first functions function body types_in rows s b st _ refl refl))) in
      part_told functions vars root s _ 0 _ [] _ _ refl refl (tells_nothing functions root) (tc (push path 0) scope (Some types.bool) b (in_first s b st _ refl refl))
      (part_told functions vars root s _ 1 _ [] _ _ refl refl (tells_nothing functions root) (tx (push path 1) scope dir (after b c) x_st)
      (part_told functions vars root s _ 2 _ [] _ _ refl refl (tells_nothing functions root) (ty (push path 2) scope _ (after b c) y_st)
      (stop functions vars root s 3 _ _ refl (omega arith) refl (rows.tells_branches s b st _ _ refl refl (after b c) (after b c) x_st y_st (λ i e at. at) (λ i e at. at)))))

  pub tells_con : (a : Place) (name : List ℕ) (e : Tree Place) → Tells' e → Form' a (con name e)
  tells_con a name e te path scope None b st =
      let s = site_of path scope None (term a (con name e)) in
      told_off functions vars root s 0 (rule T2) a refl (omega arith)
  tells_con a name e te path scope (Some t) b st =
      let s = site_of path scope (Some t) (term a (con name e)) in
      last_told functions vars root s 0 (judged T1 a _ ∷ (judged T8 a _ ∷ [])) _
      (part_told functions vars root s _ 0 _ (judged T1 a _ ∷ (judged T8 a _ ∷ [])) _ _ refl refl (tells_cons functions root (rule T1) a _ _ _ (tells_one functions root (rule T8) a _)) (te (push path 0) scope _ b (in_first s b st _ refl refl))
      (stop functions vars root s 1 _ [] refl (omega arith) refl (tells_nothing functions root)))

  pub tells_case : (a v : Place) (at : At) (e x y : Tree Place) → Tells' e → Tells' x → Tells' y → Form' a (case_of e at v x y)
  tells_case a v at e x y te tx ty path scope dir b st =
      let s = site_of path scope dir (term a (case_of e at v x y)) in
      let p = entry_types scope in
      let t = plain functions p e in
      let one : Entry = record { variable = bound_at path 0; ty = held (alternative_in at.name t); observed = false } in
      let two : Entry = record { variable = bound_at path 1; ty = with_part at.name true t; observed = false } in
      let flags = upto (length p) (after b e) in
      let way = second_branch dir (plain functions (entry_types (push scope one)) x) in
      let behind = behind_first functions function body types_in rows s b st (site_of (push path 0) scope None e) refl refl in
      let x_st = in_bound s b st 1 (site_of (push path 1) (push scope one) dir x) (length p) (after b e) refl (back_one scope one) (length-map scope (λ e. e.ty)) behind in
      let y_st = in_bound s b st 2 (site_of (push path 2) (push scope two) way y) (length p) (after b e) refl (back_one scope two) (length-map scope (λ e. e.ty))
      (flagged_branch functions s b 1 (after b e) (omega arith) tt behind) in
      let far = subst (λ q. TellsSite functions function body types_in (site_of (push path 2) (push scope two) way y)
      (events functions vars (push p (with_part at.name true t)) flags (second_branch dir (plain functions q x)) y)) (types_push scope one)
      (in_binding functions function body types_in y ty (push path 2) scope two way flags y_st) in
      part_told functions vars root s _ 0 _ [] _ _ refl refl (tells_nothing functions root) (te (push path 0) scope None b (in_first s b st _ refl refl))
      (part_told functions vars root s _ 1 _ (judged T8 at.place _ ∷ (judged T10 at.place _ ∷ [])) _ _ refl refl (tells_cons functions root (rule T8) at.place _ _ _ (tells_one functions root (rule T10) at.place _))
      (in_binding functions function body types_in x tx (push path 1) scope one dir flags x_st)
      (part_told functions vars root s _ 2 _ (scope_end functions vars (length p) v one.ty x) _ _ refl refl (rows.tells_scope s b st 1 _ refl flags x_st 0 (length p) one (at_last scope one) refl refl v) far
      (stop functions vars root s 3 _ _ refl (omega arith) refl
      (tells_append functions root _ _ _ _ (rows.tells_scope s b st 2 _ refl flags y_st 1 (length p) two (at_last scope two) refl refl at.place)
      (rows.tells_branches s b st _ _ refl refl flags flags x_st y_st (λ i e at. push_old scope one e i at) (λ i e at. push_old scope two e i at))))))

  pub tells_esac : (a : Place) (at : At) (e : Tree Place) → Tells' e → Form' a (esac at e)
  tells_esac a at e te path scope dir b st =
      let s = site_of path scope dir (term a (esac at e)) in
      part_told functions vars root s _ 0 _ [] _ _ refl refl (tells_nothing functions root) (te (push path 0) scope None b (in_first s b st _ refl refl))
      (stop functions vars root s 1 _ _ refl (omega arith) refl
      (tells_cons functions root (rule T8) at.place _ _ _ (tells_cons functions root (rule T10) at.place _ _ _ (tells_cons functions root (rule T9) at.place _ _ _ (tells_meets functions root dir a _)))))

  pub tells_member : (a : Place) (at : At) (e : Tree Place) → Tells' e → Form' a (member e at)
  tells_member a at e te path scope dir b st =
      let s = site_of path scope dir (term a (member e at)) in
      part_told functions vars root s _ 0 _ [] _ _ refl refl (tells_nothing functions root) (te (push path 0) scope None b (in_first s b st _ refl refl))
      (stop functions vars root s 1 _ _ refl (omega arith) refl
      (tells_cons functions root (rule T5) at.place _ _ _ (tells_cons functions root (rule T6) at.place _ _ _ (tells_cons functions root (rule K6) at.place _ _ _ (tells_meets functions root dir a _)))))

  pub tells_take : (a v w : Place) (at : At) (e k : Tree Place) → Tells' e → Tells' k → Form' a (take_field e at v w k)
  tells_take a v w at e k te tk path scope dir b st =
      let s = site_of path scope dir (term a (take_field e at v w k)) in
      let p = entry_types scope in
      let t = plain functions p e in
      let one : Entry = record { variable = bound_at path 0; ty = with_part at.name true t; observed = false } in
      let two : Entry = record { variable = bound_at path 1; ty = held (field_in at.name t); observed = false } in
      let flags = upto (length p) (after b e) in
      let k_st = in_bound s b st 1 (site_of (push path 1) (push (push scope one) two) dir k) (length p) (after b e) refl (back_two scope one two) (length-map scope (λ e. e.ty))
      (behind_first functions function body types_in rows s b st (site_of (push path 0) scope None e) refl refl) in
      let inner = subst (λ q. TellsSite functions function body types_in (site_of (push path 1) (push (push scope one) two) dir k) (events functions vars (push q two.ty) flags dir k)) (types_push scope one)
      (in_binding functions function body types_in k tk (push path 1) (push scope one) two dir flags k_st) in
      part_told functions vars root s _ 0 _ [] _ _ refl refl (tells_nothing functions root) (te (push path 0) scope None b (in_first s b st _ refl refl))
      (part_told functions vars root s _ 1 _ (judged T5 at.place _ ∷ (judged T7 at.place _ ∷ (judged T6 at.place _ ∷ []))) _ _ refl refl
      (tells_cons functions root (rule T5) at.place _ _ _ (tells_cons functions root (rule T7) at.place _ _ _ (tells_one functions root (rule T6) at.place _))) inner
      (stop functions vars root s 2 _ _ refl (omega arith) refl
      (tells_append functions root _ _ _ _ (rows.tells_scope s b st 1 _ refl flags k_st 0 (length p) one (push_old (push scope one) two one (length p) (at_last scope one)) refl refl v)
      (rows.tells_scope s b st 1 _ refl flags k_st 1 (suc (length p)) two (at_second scope one two) refl refl w))))

  pub tells_put : (a : Place) (at : At) (e x : Tree Place) → Tells' e → Tells' x → Form' a (put e at x)
  tells_put a at e x te tx path scope dir b st =
      let s = site_of path scope dir (term a (put e at x)) in
      part_told functions vars root s _ 0 _ [] _ _ refl refl (tells_nothing functions root) (te (push path 0) scope None b (in_first s b st _ refl refl))
      (part_told functions vars root s _ 1 _ (judged T5 at.place _ ∷ (judged T7 at.place _ ∷ (judged K7 at.place _ ∷ []))) _ _ refl refl
      (tells_cons functions root (rule T5) at.place _ _ _ (tells_cons functions root (rule T7) at.place _ _ _ (tells_one functions root (rule K7) at.place _))) (tx (push path 1) scope _ (after b e) (in_second s b st _ _ refl refl refl refl))
      (stop functions vars root s 2 _ _ refl (omega arith) refl (tells_meets functions root dir a _)))

  pub tells_cast : (a : Place) (e : Tree Place) → Tells' e → Form' a (cast e)
  tells_cast a e te path scope None b st =
      let s = site_of path scope None (term a (cast e)) in
      told_off functions vars root s 0 (rule T2) a refl (omega arith)
  tells_cast a e te path scope (Some t) b st =
      let s = site_of path scope (Some t) (term a (cast e)) in
      part_told functions vars root s _ 0 _ [] _ _ refl refl (tells_nothing functions root) (te (push path 0) scope None b (in_first s b st _ refl refl))
      (stop functions vars root s 1 _ _ refl (omega arith) refl (tells_one functions root (rule T11) a _))

  pub tells_annot : (a : Place) (e : Tree Place) (t : Arg) → Tells' e → Form' a (annot e t)
  tells_annot a e t te path scope dir b st =
      let s = site_of path scope dir (term a (annot e t)) in
      part_told functions vars root s _ 0 _ (judged T14 t.place _ ∷ []) _ _ refl refl (tells_one functions root (rule T14) t.place _) (te (push path 0) scope (Some t.ty) b (in_first s b st _ refl refl))
      (stop functions vars root s 1 _ _ refl (omega arith) refl (tells_meets functions root dir a t.ty))
