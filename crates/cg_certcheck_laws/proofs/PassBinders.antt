-- The second checker's pass answers the first event that fails: nodes with several parts.
use Rattle.std.proofs.Common.{◌≡◌, ℕ, ◌+◌, true, false, ◌&&◌, not, Option, Some, None, Ok, List, [], ◌∷◌, ◌++◌, refl, ap, subst}
use Rattle.cg_base.specs.declared.kind.Kinds.{Kinds}
use Rattle.cg_base.specs.declared.place.Place.{Place}
use Rattle.cg_base.specs.Types as types
use Rattle.cg_base.specs.Types.{Tau}
use Rattle.cg_check_def.specs.NormalForm.{core}
use Rattle.cg_core.specs.declared.at.At.{At}
use Rattle.cg_core.specs.declared.derivation.Node.TheVariants as nodes
use Rattle.cg_core.specs.declared.term.Seen.{Seen}
use Rattle.cg_core.specs.Kernels.{Function}
use Rattle.cg_core.specs.Terms.{Tree, term, app, lets, let_bang, if_else, case_of, take_field, put}
use Rattle.cg_faults.specs.Plain.{observed, plain, plain_in}
use Rattle.cg_kinds.specs.Kinds.{kinds}
use Rattle.cg_certcheck_def.specs.Events as tests
use Rattle.cg_certcheck_def.specs.Events.{Event, marks_next, size, meets, events}
use Rattle.cg_certcheck_def.specs.Pass.{bind, row, Cursor, step, made, check}
use Rattle.cg_certcheck_laws.proofs.PassParts.{value, Passes, PassesShape, moved, got, meets_got}
use Rattle.cg_certcheck_laws.proofs.PassSteps.{run, next, last_part, past, past_past, past_two, past_three, Agree, agree_push, agree_left, agree_first, agree_second, split_is}
use Rattle.cg_typing.specs.Contexts.{Context, push, first, second, among}
use Rattle.cg_typing.specs.Parts.{is_arrow, taken_by, given_by, is_read_only, field_in, alternative_in, held, is_there, is_left, may_be_put_over, with_part}
use Rattle.cg_typing.specs.Rules.{second_branch}
use Rattle.cg_typing.specs.Trees.{two, three}

module _ (functions : List Function) (vars : List Kinds) where
  -- the events of a part that stands here
  abbrev Here : Context → List Tau → Option Tau → Cursor → Tree Place → List Event
  Here g p way at e = events functions vars g p way at.nodes at.next e

  abbrev P : Tree Place → Type 0
  P = Passes functions vars

  pub pass_app : (a : Place) (f x : Tree Place) → P f → P x → PassesShape functions vars a (app f x)
  pass_app a f x pf px g p dir at h =
      let m = marks_next at.nodes in let here = step at in let mid = past (size f) here in let to = past (size x) mid in
      let t = plain functions p f in let way = Some (taken_by t) in
      let end' = tests.row at.next (meets dir (given_by t)) ∷ [] in
      let arg = Here (second m g) p way mid x ++ end' in
      split_is functions vars [] g nodes.App at
      (λ m. bind (check functions vars (first m g) None here f) (λ u. row at.next (is_arrow u.ty)
      (bind (check functions vars (second m g) (Some (taken_by u.ty)) u.at x) (λ v. row at.next (meets dir (given_by u.ty))
      (Ok (made a (given_by u.ty) (app u.core v.core) (two nodes.App m u.tree v.tree) v.at))))))
      (Here (first m g) p None here f ++ (tests.row at.next (is_arrow t) ∷ arg)) (Ok (value functions vars p dir at (term a (app f x))))
      (λ s. next (check functions vars (first m g) None here f) _ (Here (first m g) p None here f) (tests.row at.next (is_arrow t) ∷ arg) (value functions vars p None here f) _
      (pf (first m g) p None here (agree_left m g p vars s h))
      (ap (row at.next (is_arrow t)) (next (check functions vars (second m g) way mid x) (λ v. row at.next (meets dir (given_by t))
      (Ok (made a (given_by t) (app (core functions p None f) v.core) (two nodes.App m (value functions vars p None here f).tree v.tree) v.at)))
      (Here (second m g) p way mid x) end' (value functions vars p way mid x) (Ok (value functions vars p dir at (term a (app f x))))
      (px (second m g) p way mid (agree_second (λ i. false) m g p vars s h))
      (meets_got functions vars (meets dir (given_by t)) p dir a (app f x) at to (λ w. w) (past_two (size f) (size x) at)))))

  pub pass_put : (a : Place) (e : Tree Place) (name : At) (x : Tree Place) → P e → P x → PassesShape functions vars a (put e name x)
  pass_put a e name x pe px g p dir at h =
      let m = marks_next at.nodes in let here = step at in let mid = past (size e) here in let to = past (size x) mid in
      let t = plain functions p e in let way = Some (held (field_in name.name t)) in
      let ok = is_there (field_in name.name t) && (not (is_read_only t) && may_be_put_over vars (field_in name.name t)) in
      let meet = meets dir (with_part name.name false t) in
      let end' = tests.row at.next meet ∷ [] in
      let arg = Here (second m g) p way mid x ++ end' in
      split_is functions vars [] g nodes.Put at
      (λ m. bind (check functions vars (first m g) None here e) (λ u.
      row at.next (is_there (field_in name.name u.ty) && (not (is_read_only u.ty) && may_be_put_over vars (field_in name.name u.ty)))
      (bind (check functions vars (second m g) (Some (held (field_in name.name u.ty))) u.at x) (λ v. row at.next (meets dir (with_part name.name false u.ty))
      (Ok (made a (with_part name.name false u.ty) (put u.core name v.core) (two nodes.Put m u.tree v.tree) v.at))))))
      (Here (first m g) p None here e ++ (tests.row at.next ok ∷ arg)) (Ok (value functions vars p dir at (term a (put e name x))))
      (λ s. next (check functions vars (first m g) None here e) _ (Here (first m g) p None here e) (tests.row at.next ok ∷ arg) (value functions vars p None here e) _
      (pe (first m g) p None here (agree_left m g p vars s h))
      (ap (row at.next ok) (next (check functions vars (second m g) way mid x) (λ v. row at.next meet
      (Ok (made a (with_part name.name false t) (put (core functions p None e) name v.core) (two nodes.Put m (value functions vars p None here e).tree v.tree) v.at)))
      (Here (second m g) p way mid x) end' (value functions vars p way mid x) (Ok (value functions vars p dir at (term a (put e name x))))
      (px (second m g) p way mid (agree_second (λ i. false) m g p vars s h))
      (meets_got functions vars meet p dir a (put e name x) at to (λ w. w) (past_two (size e) (size x) at)))))

  -- ---- bindings: the type of a node is that of its body

  let_type : (a binder : Place) (e k : Tree Place) (p : List Tau) (dir : Option Tau)
      → plain_in functions (push p (plain functions p e)) dir k ≡ plain_in functions p dir (term a (lets binder e k))
  let_type a binder e k p None = refl
  let_type a binder e k p (Some t) = refl

  pub pass_let : (a binder : Place) (e k : Tree Place) → P e → P k → PassesShape functions vars a (lets binder e k)
  pass_let a binder e k pe pk g p dir at h =
      let m = marks_next at.nodes in let here = step at in let mid = past (size e) here in let to = past (size k) mid in
      let t = plain functions p e in
      let body = Here (push (second m g) (Some t)) (push p t) dir mid k in
      split_is functions vars [] g nodes.Let at
      (λ m. bind (check functions vars (first m g) None here e) (λ u. bind (check functions vars (push (second m g) (Some u.ty)) dir u.at k) (λ v.
      Ok (made a v.ty (lets binder u.core v.core) (two nodes.Let m u.tree v.tree) v.at))))
      (Here (first m g) p None here e ++ body) (Ok (value functions vars p dir at (term a (lets binder e k))))
      (λ s. next (check functions vars (first m g) None here e) _ (Here (first m g) p None here e) body (value functions vars p None here e) _
      (pe (first m g) p None here (agree_left m g p vars s h))
      (last_part (check functions vars (push (second m g) (Some t)) dir mid k) (λ v. Ok (made a v.ty (lets binder (core functions p None e) v.core) (two nodes.Let m (value functions vars p None here e).tree v.tree) v.at))
      body (value functions vars (push p t) dir mid k) (Ok (value functions vars p dir at (term a (lets binder e k))))
      (pk (push (second m g) (Some t)) (push p t) dir mid (agree_push (second m g) p t (agree_second (λ i. false) m g p vars s h)))
      (got functions vars p dir a (lets binder e k) _ at to (let_type a binder e k p dir) (past_two (size e) (size k) at))))

  let_bang_type : (a : Place) (os : List Seen) (binder : Place) (e k : Tree Place) (p : List Tau) (dir : Option Tau)
      → plain_in functions (push p (plain functions (observed os p) e)) dir k ≡ plain_in functions p dir (term a (let_bang os binder e k))
  let_bang_type a os binder e k p None = refl
  let_bang_type a os binder e k p (Some t) = refl

  pub pass_let_bang : (a : Place) (os : List Seen) (binder : Place) (e k : Tree Place) → P e → P k → PassesShape functions vars a (let_bang os binder e k)
  pass_let_bang a os binder e k pe pk g p dir at h =
      let m = marks_next at.nodes in let here = step at in let mid = past (size e) here in let to = past (size k) mid in
      let q = observed os p in let t = plain functions q e in let ok = (kinds vars t).escape in
      let body = Here (push (second m g) (Some t)) (push p t) dir mid k in
      split_is functions vars os g nodes.LetBang at
      (λ m. bind (check functions vars (first m g) None here e) (λ u. row at.next (kinds vars u.ty).escape
      (bind (check functions vars (push (second m g) (Some u.ty)) dir u.at k) (λ v.
      Ok (made a v.ty (let_bang os binder u.core v.core) (two nodes.LetBang m u.tree v.tree) v.at)))))
      (Here (first m g) q None here e ++ (tests.row at.next ok ∷ body)) (Ok (value functions vars p dir at (term a (let_bang os binder e k))))
      (λ s. next (check functions vars (first m g) None here e) _ (Here (first m g) q None here e) (tests.row at.next ok ∷ body) (value functions vars q None here e) _
      (pe (first m g) q None here (agree_first (λ i. among i os) m g p vars s h))
      (ap (row at.next ok) (last_part (check functions vars (push (second m g) (Some t)) dir mid k)
      (λ v. Ok (made a v.ty (let_bang os binder (core functions q None e) v.core) (two nodes.LetBang m (value functions vars q None here e).tree v.tree) v.at))
      body (value functions vars (push p t) dir mid k) (Ok (value functions vars p dir at (term a (let_bang os binder e k))))
      (pk (push (second m g) (Some t)) (push p t) dir mid (agree_push (second m g) p t (agree_second (λ i. among i os) m g p vars s h)))
      (got functions vars p dir a (let_bang os binder e k) _ at to (let_bang_type a os binder e k p dir) (past_two (size e) (size k) at)))))

  take_type : (a : Place) (e : Tree Place) (name : At) (rest binder : Place) (k : Tree Place) (p : List Tau) (dir : Option Tau)
      → plain_in functions (push (push p (with_part name.name true (plain functions p e))) (held (field_in name.name (plain functions p e)))) dir k
      ≡ plain_in functions p dir (term a (take_field e name rest binder k))
  take_type a e name rest binder k p None = refl
  take_type a e name rest binder k p (Some t) = refl

  pub pass_take : (a : Place) (e : Tree Place) (name : At) (rest binder : Place) (k : Tree Place) → P e → P k → PassesShape functions vars a (take_field e name rest binder k)
  pass_take a e name rest binder k pe pk g p dir at h =
      let m = marks_next at.nodes in let here = step at in let mid = past (size e) here in let to = past (size k) mid in
      let t = plain functions p e in let left = with_part name.name true t in let taken = held (field_in name.name t) in
      let ok = is_left (field_in name.name t) && not (is_read_only t) in
      let g2 = push (push (second m g) (Some left)) (Some taken) in let p2 = push (push p left) taken in
      let body = Here g2 p2 dir mid k in
      split_is functions vars [] g nodes.Take at
      (λ m. bind (check functions vars (first m g) None here e) (λ u. row at.next (is_left (field_in name.name u.ty) && not (is_read_only u.ty))
      (bind (check functions vars (push (push (second m g) (Some (with_part name.name true u.ty))) (Some (held (field_in name.name u.ty)))) dir u.at k) (λ v.
      Ok (made a v.ty (take_field u.core name rest binder v.core) (two nodes.Take m u.tree v.tree) v.at)))))
      (Here (first m g) p None here e ++ (tests.row at.next ok ∷ body)) (Ok (value functions vars p dir at (term a (take_field e name rest binder k))))
      (λ s. next (check functions vars (first m g) None here e) _ (Here (first m g) p None here e) (tests.row at.next ok ∷ body) (value functions vars p None here e) _
      (pe (first m g) p None here (agree_left m g p vars s h))
      (ap (row at.next ok) (last_part (check functions vars g2 dir mid k)
      (λ v. Ok (made a v.ty (take_field (core functions p None e) name rest binder v.core) (two nodes.Take m (value functions vars p None here e).tree v.tree) v.at))
      body (value functions vars p2 dir mid k) (Ok (value functions vars p dir at (term a (take_field e name rest binder k))))
      (pk g2 p2 dir mid (agree_push (push (second m g) (Some left)) (push p left) taken (agree_push (second m g) p left (agree_second (λ i. false) m g p vars s h))))
      (got functions vars p dir a (take_field e name rest binder k) _ at to (take_type a e name rest binder k p dir) (past_two (size e) (size k) at)))))

  -- ---- branches

  -- the direction of the second one, by the first one's type
  way_is : (p : List Tau) (dir : Option Tau) (x : Tree Place) → second_branch dir (plain_in functions p dir x) ≡ second_branch dir (plain functions p x)
  way_is p None x = refl
  way_is p (Some t) x = refl

  -- a second branch behind a part and the first branch
  branch : (y : Tree Place) → P y → (g : Context) (p : List Tau) (given way : Option Tau) (k l : ℕ) (here : Cursor) → given ≡ way → Agree g p
      → check functions vars g given (past l (past k here)) y ≡ run (Here g p way (past (k + l) here) y) (Ok (value functions vars p way (past (k + l) here) y))
  branch y py g p given way k l here e h =
      subst (λ w. check functions vars g given (past l (past k here)) y ≡ run (Here g p w (past (k + l) here) y) (Ok (value functions vars p w (past (k + l) here) y))) e
      (moved functions vars y py g p given (past l (past k here)) (past (k + l) here) (past_past k l here) h)

  if_type : (a : Place) (c x y : Tree Place) (p : List Tau) (dir : Option Tau) → plain_in functions p dir x ≡ plain_in functions p dir (term a (if_else c x y))
  if_type a c x y p None = refl
  if_type a c x y p (Some t) = refl

  pub pass_if : (a : Place) (c x y : Tree Place) → P c → P x → P y → PassesShape functions vars a (if_else c x y)
  pass_if a c x y pc px py g p dir at h =
      let m = marks_next at.nodes in let here = step at in let mid = past (size c) here in let far = past (size c + size x) here in let to = past (size y) far in
      let way = second_branch dir (plain functions p x) in
      let one = Here (second m g) p dir mid x in let other = Here (second m g) p way far y in
      split_is functions vars [] g nodes.If at
      (λ m. bind (check functions vars (first m g) (Some types.bool) here c) (λ u. bind (check functions vars (second m g) dir u.at x) (λ v.
      bind (check functions vars (second m g) (second_branch dir v.ty) v.at y) (λ w.
      Ok (made a v.ty (if_else u.core v.core w.core) (three nodes.If m u.tree v.tree w.tree) w.at)))))
      (Here (first m g) p (Some types.bool) here c ++ (one ++ other)) (Ok (value functions vars p dir at (term a (if_else c x y))))
      (λ s.
      let right = agree_second (λ i. false) m g p vars s h in
      next (check functions vars (first m g) (Some types.bool) here c) _ (Here (first m g) p (Some types.bool) here c) (one ++ other) (value functions vars p (Some types.bool) here c) _
      (pc (first m g) p (Some types.bool) here (agree_left m g p vars s h))
      (next (check functions vars (second m g) dir mid x) _ one other (value functions vars p dir mid x) _ (px (second m g) p dir mid right)
      (last_part (check functions vars (second m g) (second_branch dir (plain_in functions p dir x)) (past (size x) mid) y)
      (λ w. Ok (made a (plain_in functions p dir x) (if_else (core functions p (Some types.bool) c) (core functions p dir x) w.core)
      (three nodes.If m (value functions vars p (Some types.bool) here c).tree (value functions vars p dir mid x).tree w.tree) w.at))
      other (value functions vars p way far y) (Ok (value functions vars p dir at (term a (if_else c x y))))
      (branch y py (second m g) p (second_branch dir (plain_in functions p dir x)) way (size c) (size x) here (way_is p dir x) right)
      (got functions vars p dir a (if_else c x y) _ at to (if_type a c x y p dir) (past_three (size c) (size x) (size y) at)))))

  case_type : (a : Place) (e : Tree Place) (name : At) (binder : Place) (x y : Tree Place) (p : List Tau) (dir : Option Tau)
      → plain_in functions (push p (held (alternative_in name.name (plain functions p e)))) dir x ≡ plain_in functions p dir (term a (case_of e name binder x y))
  case_type a e name binder x y p None = refl
  case_type a e name binder x y p (Some t) = refl

  pub pass_case : (a : Place) (e : Tree Place) (name : At) (binder : Place) (x y : Tree Place) → P e → P x → P y → PassesShape functions vars a (case_of e name binder x y)
  pass_case a e name binder x y pe px py g p dir at h =
      let m = marks_next at.nodes in let here = step at in let mid = past (size e) here in let far = past (size e + size x) here in let to = past (size y) far in
      let t = plain functions p e in let payload = held (alternative_in name.name t) in let rest = with_part name.name true t in
      let ok = is_left (alternative_in name.name t) in
      let g1 = push (second m g) (Some payload) in let p1 = push p payload in let g2 = push (second m g) (Some rest) in let p2 = push p rest in
      let way = second_branch dir (plain functions p1 x) in
      let one = Here g1 p1 dir mid x in let other = Here g2 p2 way far y in
      split_is functions vars [] g nodes.Case at
      (λ m. bind (check functions vars (first m g) None here e) (λ u. row at.next (is_left (alternative_in name.name u.ty))
      (bind (check functions vars (push (second m g) (Some (held (alternative_in name.name u.ty)))) dir u.at x) (λ v.
      bind (check functions vars (push (second m g) (Some (with_part name.name true u.ty))) (second_branch dir v.ty) v.at y) (λ w.
      Ok (made a v.ty (case_of u.core name binder v.core w.core) (three nodes.Case m u.tree v.tree w.tree) w.at))))))
      (Here (first m g) p None here e ++ (tests.row at.next ok ∷ (one ++ other))) (Ok (value functions vars p dir at (term a (case_of e name binder x y))))
      (λ s.
      let right = agree_second (λ i. false) m g p vars s h in
      next (check functions vars (first m g) None here e) _ (Here (first m g) p None here e) (tests.row at.next ok ∷ (one ++ other)) (value functions vars p None here e) _
      (pe (first m g) p None here (agree_left m g p vars s h))
      (ap (row at.next ok) (next (check functions vars g1 dir mid x)
      (λ v. bind (check functions vars g2 (second_branch dir v.ty) v.at y) (λ w.
      Ok (made a v.ty (case_of (core functions p None e) name binder v.core w.core) (three nodes.Case m (value functions vars p None here e).tree v.tree w.tree) w.at)))
      one other (value functions vars p1 dir mid x) (Ok (value functions vars p dir at (term a (case_of e name binder x y))))
      (px g1 p1 dir mid (agree_push (second m g) p payload right))
      (last_part (check functions vars g2 (second_branch dir (plain_in functions p1 dir x)) (past (size x) mid) y)
      (λ w. Ok (made a (plain_in functions p1 dir x) (case_of (core functions p None e) name binder (core functions p1 dir x) w.core)
      (three nodes.Case m (value functions vars p None here e).tree (value functions vars p1 dir mid x).tree w.tree) w.at))
      other (value functions vars p2 way far y) (Ok (value functions vars p dir at (term a (case_of e name binder x y))))
      (branch y py g2 p2 (second_branch dir (plain_in functions p1 dir x)) way (size e) (size x) here (way_is p1 dir x) (agree_push (second m g) p rest right))
      (got functions vars p dir a (case_of e name binder x y) _ at to (case_type a e name binder x y p dir) (past_three (size e) (size x) (size y) at))))))
