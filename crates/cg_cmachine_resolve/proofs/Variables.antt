-- The variables of a function.
use Rattle.std.proofs.Common.{◌≡◌, ℕ, suc, ◌+◌, ◌<◌, Bool, true, false, cond, Some, None, List, [], ◌∷◌, ◌++◌, length, get_or, take, refl, sym, ap, ◌∙◌, subst, arith, bytes_eq, append-nil}
use Rattle.std.proofs.lemmas.List.{append_assoc, length-map, map-append, take_more}
use Rattle.std.specs.List.{position_from}
use Rattle.cg_cmachine_layout.specs.Kinds.{layout_of}
use Rattle.cg_cmachine_resolve.specs.declared.scope.Variable.{Variable}
use Rattle.cg_cmachine_resolve.specs.declared.scope.Variables.{Variables}
use Rattle.cg_cmachine_resolve.specs.Indexes.{HasJoined, Indexes, place}
use Rattle.cg_cmachine_resolve.specs.Queues.{HasPushed}
use Rattle.cg_cmachine_resolve.specs.Scopes.{Finds, Scope, declared_as, locals_of, scope_of, total}
use Rattle.cg_cmachine_resolve.specs.Variables.{AreAdded, AreVariables, IsFirst, IsScope, IsVariable, names_of}
use Rattle.cg_cmachine_resolve.proofs.Places.{finds_here, finds_later}
use Rattle.cg_cmachine_def.specs.Layouts.{Layout, layout, size}
use Rattle.cg_ctree.specs.declared.tree.CBody.{CBody}
use Rattle.cg_ctree.specs.declared.tree.CDecl.{CDecl}
use Rattle.cg_ctree.specs.declared.tree.CFun.{CFun}
use Rattle.cg_ctree.specs.declared.tree.CStruct.{CStruct}

-- ---- variables that are added

are_push : (ss : List CStruct) (at : ℕ) (vs : Scope) (xs : List Variable) (v : List ℕ × Layout) (x : Variable) → AreVariables ss at vs xs → IsVariable ss (at + total vs) v x
    → AreVariables ss at (vs ++ v ∷ []) (xs ++ x ∷ [])
are_push ss at [] [] v x a i = (subst (λ n. IsVariable ss n v x) (omega arith) i, tt)
are_push ss at [] (y ∷ ys) v x a i = absurd a
are_push ss at (w ∷ vs) [] v x a i = absurd a
are_push ss at (w ∷ vs) (y ∷ ys) v x a i = (a.0, are_push ss (at + size w.1) vs ys v x a.1 (subst (λ n. IsVariable ss n v x) (omega arith) i))

total_push : (vs : Scope) (v : List ℕ × Layout) → total (vs ++ v ∷ []) ≡ total vs + size v.1
total_push [] v = omega arith
total_push (w ∷ vs) v = ap (λ n. size w.1 + n) (total_push vs v) ∙ omega arith

are_long : (ss : List CStruct) (at : ℕ) (vs : Scope) (xs : List Variable) → AreVariables ss at vs xs → length xs ≡ length vs
are_long ss at [] [] a = refl
are_long ss at [] (x ∷ xs) a = absurd a
are_long ss at (v ∷ vs) [] a = absurd a
are_long ss at (v ∷ vs) (x ∷ xs) a = ap suc (are_long ss (at + size v.1) vs xs a.1)

-- a declaration's variable
pub declares : (ss : List CStruct) (d : CDecl) (name : List ℕ) (before between after : Variables) → name ≡ d.name → HasJoined name (length before.list.items) before.names between.names
    → between.list.items ≡ before.list.items → between.slots ≡ before.slots → after.names ≡ between.names
    → HasPushed (IsVariable ss between.slots (d.name, layout ss d.ty)) between.list.items after.list.items → after.slots ≡ between.slots + size (layout ss d.ty)
    → AreAdded ss (declared_as ss (d ∷ [])) before after
declares ss d name before between after named joins list slots names pushed next = record {
  added = λ vs is. record {
    named = rw names (subst (λ l. Indexes l between.names) (ap (λ n. names_of vs ++ n ∷ []) named ∙ sym (map-append (λ v. v.0) vs ((d.name, layout ss d.ty) ∷ [])))
        (joins.joins (names_of vs) (are_long ss 0 vs before.list.items is.listed ∙ sym (length-map vs (λ v. v.0))) is.named));
    listed = rw (pushed.behind, list)
        (are_push ss 0 vs before.list.items (d.name, layout ss d.ty) pushed.last is.listed
        (subst (λ n. IsVariable ss n (d.name, layout ss d.ty) pushed.last) (slots ∙ is.many ∙ omega arith) pushed.holds));
    many = next ∙ ap (λ n. n + size (layout ss d.ty)) (slots ∙ is.many) ∙ sym (total_push vs (d.name, layout ss d.ty));
  };
}

-- none, and more behind others
pub added_none : (ss : List CStruct) (variables : Variables) → AreAdded ss [] variables variables
added_none ss variables = record { added = λ vs is. subst (λ vs. IsScope ss vs variables) (sym (append-nil vs)) is }

pub added_more : (ss : List CStruct) (more last : Scope) (a b c : Variables) → AreAdded ss more a b → AreAdded ss last b c → AreAdded ss (more ++ last) a c
added_more ss more last a b c first next = record {
  added = λ vs is. subst (λ vs. IsScope ss vs c) (append_assoc vs more last) (next.added (vs ++ more) (first.added vs is));
}

-- a turn of the loop over declarations
pub added_turn : (ss : List CStruct) (ds : List CDecl) (i : ℕ) (d : CDecl) (a b c : Variables) → i < length ds → d ≡ get_or ds i d
    → AreAdded ss (declared_as ss (take i ds)) a b → AreAdded ss (declared_as ss (d ∷ [])) b c → AreAdded ss (declared_as ss (take (i + 1) ds)) a c
added_turn ss ds i d a b c within item first next =
    let scope : declared_as ss (take i ds) ++ declared_as ss (d ∷ []) ≡ declared_as ss (take (i + 1) ds) =
    sym (ap (declared_as ss) (take_more ds i d within ∙ ap (λ y. take i ds ++ y ∷ []) (sym item)) ∙ map-append (λ d. (d.name, layout ss d.ty)) (take i ds) (d ∷ [])) in
    subst (λ more. AreAdded ss more a c) scope (added_more ss (declared_as ss (take i ds)) (declared_as ss (d ∷ [])) a b c first next)

-- the parameters, and then the locals
pub added_params : (ss : List CStruct) (f : CFun) (params : List CDecl) (a b : Variables) → params ≡ f.params → f.body ≡ None → AreAdded ss (declared_as ss params) a b → AreAdded ss (scope_of ss f) a b
added_params ss f params a b e none is =
    subst (λ vs. AreAdded ss vs a b) (ap (declared_as ss) (e ∙ sym (append-nil f.params) ∙ ap (λ b. f.params ++ locals_of b) (sym none))) is

pub added_all : (ss : List CStruct) (f : CFun) (body : CBody) (params locals : List CDecl) (a b c : Variables) → params ≡ f.params → f.body ≡ Some body → locals ≡ body.locals
    → AreAdded ss (declared_as ss params) a b → AreAdded ss (declared_as ss locals) b c → AreAdded ss (scope_of ss f) a c
added_all ss f body params locals a b c e some g first next =
    let scope : declared_as ss params ++ declared_as ss locals ≡ scope_of ss f =
    sym (map-append (λ d. (d.name, layout ss d.ty)) params locals) ∙ ap (λ ds. declared_as ss (ds ++ locals)) e ∙ ap (λ ds. declared_as ss (f.params ++ ds)) (g ∙ ap locals_of (sym some)) in
    subst (λ vs. AreAdded ss vs a c) scope (added_more ss (declared_as ss params) (declared_as ss locals) a b c first next)

-- from none on
pub scope_added : (ss : List CStruct) (vs : Scope) (first last : Variables) → first.list.items ≡ [] → first.slots ≡ 0 → Indexes [] first.names → AreAdded ss vs first last → IsScope ss vs last
scope_added ss vs first last empty zero named a = a.added [] (record { named = named; listed = rw empty tt; many = zero })

-- ---- the variable of a name

-- a variable is the first of a name, where the slots of these begin at a number
pub record IsFound (ss : List CStruct) (x : List ℕ) (base : ℕ) (vs : Scope) (v : Variable) : Type 0 where
  pub offset : ℕ
  pub starts : v.start ≡ base + offset
  pub finds : Finds x vs offset (layout ss v.ty.now)
  pub kinded : layout_of v.kind ≡ layout ss v.ty.now

first_some : (ss : List CStruct) (x : List ℕ) (base i at : ℕ) (vs : Scope) (list : List Variable) → AreVariables ss base vs list → position_from (bytes_eq x) i (names_of vs) ≡ Some at
    → (k : ℕ) × (i + k ≡ at) × (k < length list) × ((d : Variable) → IsFound ss x base vs (get_or list k d))
first_some ss x base i at [] list a e = absurd (cc)
first_some ss x base i at (v ∷ vs) [] a e = absurd a
first_some ss x base i at (v ∷ vs) (y ∷ list) a e = pick (bytes_eq x v.0) refl e (first_some ss x (base + size v.1) (i + 1) at vs list a.1)
  where
    pick : (b : Bool) → bytes_eq x v.0 ≡ b → cond b (Some i) (position_from (bytes_eq x) (i + 1) (names_of vs)) ≡ Some at
        → (position_from (bytes_eq x) (i + 1) (names_of vs) ≡ Some at → (k : ℕ) × ((i + 1) + k ≡ at) × (k < length list) × ((d : Variable) → IsFound ss x (base + size v.1) vs (get_or list k d)))
        → (k : ℕ) × (i + k ≡ at) × (k < length (y ∷ list)) × ((d : Variable) → IsFound ss x base (v ∷ vs) (get_or (y ∷ list) k d))
    pick true here e h = (
      0,
      (let same : i ≡ at = cc in omega arith),
      omega arith,
      λ d. record { offset = 0; starts = a.0.starts ∙ omega arith; finds = subst (Finds x (v ∷ vs) 0) (sym a.0.typed) (finds_here x v.0 v.1 vs here); kinded = a.0.kinded ∙ sym a.0.typed },
    )
    pick false apart e h = let later = h e in (
      suc later.0,
      omega (arith, later.1),
      omega (arith, later.2),
      λ d. record { offset = size v.1 + (later.3 d).offset; starts = (later.3 d).starts ∙ omega arith; finds = finds_later x v.0 v.1 (layout ss (get_or list later.0 d).ty.now) vs (later.3 d).offset apart (later.3 d).finds; kinded = (later.3 d).kinded },
    )

pub first_at : (ss : List CStruct) (x : List ℕ) (vs : Scope) (variables : Variables) (at : ℕ) → IsScope ss vs variables → place variables.names x ≡ Some at
    → (at < length variables.list.items) × ((d : Variable) → IsFound ss x 0 vs (get_or variables.list.items at d))
first_at ss x vs variables at is e =
    let found = first_some ss x 0 0 at vs variables.list.items is.listed (sym (is.named.first x) ∙ e) in
    let same : found.0 ≡ at = omega (arith, found.1) in
    subst (λ k. (k < length variables.list.items) × ((d : Variable) → IsFound ss x 0 vs (get_or variables.list.items k d))) same (found.2, found.3)

pub first_of : (ss : List CStruct) (x : List ℕ) (vs : Scope) (variables : Variables) (at : ℕ) (v : Variable) → IsScope ss vs variables → place variables.names x ≡ Some at
    → v ≡ get_or variables.list.items at v → IsFirst ss x vs v
first_of ss x vs variables at v is e item =
    let found : IsFound ss x 0 vs v = subst (IsFound ss x 0 vs) (sym item) ((first_at ss x vs variables at is e).1 v) in
    let starts : found.offset ≡ v.start = omega (arith, found.starts) in
    record { finds = subst (λ n. Finds x vs n (layout ss v.ty.now)) starts found.finds; kinded = found.kinded }
