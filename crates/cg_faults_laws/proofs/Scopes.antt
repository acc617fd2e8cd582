-- Scopes along a path: no variable stands twice in one, and each is bound above. What a part's scope has is what its node's has,
-- with some entries observed and new ones behind.
use Rattle.std.proofs.Common.{◌≡◌, ◌⊎◌, ℕ, zero, suc, Bool, true, false, ◌||◌, cond, Some, List, [], ◌∷◌, ◌++◌, length, slice_get, inl, inr, ⊎_elim, refl, sym, ap, ◌∙◌, subst, arith, append-nil, length-append}
use Rattle.cg_kinds.specs.Kinds.{bang}
use Rattle.cg_typing.specs.Contexts.{push}
use Rattle.cg_faults.specs.Sites.{Path, Variable, argument, bound_at, Entry, observe}
use Rattle.cg_check_laws.proofs.Basics.{length_push}

-- ---- lists

pub push_append : (path q : Path) (j : ℕ) → (push path j ++ q) ≡ (path ++ (j ∷ q))
push_append [] q j = refl
push_append (i ∷ path) q j = ap (λ p. i ∷ p) (push_append path q j)

pub push_old : {A : Type 0} (xs : List A) (x y : A) (i : ℕ) → slice_get xs i ≡ Some y → slice_get (push xs x) i ≡ Some y
push_old [] x y i h = absurd (cc)
push_old (z ∷ xs) x y zero h = h
push_old (z ∷ xs) x y (suc i) h = push_old xs x y i h

pub of_push : {A : Type 0} (xs : List A) (x y : A) (i : ℕ) → slice_get (push xs x) i ≡ Some y → (slice_get xs i ≡ Some y) ⊎ ((i ≡ length xs) × (x ≡ y))
of_push [] x y zero h = inr (refl, cc)
of_push [] x y (suc i) h = absurd (cc)
of_push (z ∷ xs) x y zero h = inl h
of_push (z ∷ xs) x y (suc i) h = ⊎_elim (λ l. inl l) (λ r. inr (ap suc r.0, r.1)) (of_push xs x y i h)

-- an entry that a `let!` observes, or not
abbrev pub seen_if : Bool → Entry → Entry
seen_if q e = cond q (record { variable = e.variable; ty = bang e.ty; observed = true }) e

pub seen_variable : (q : Bool) (e : Entry) → (seen_if q e).variable ≡ e.variable
seen_variable true e = refl
seen_variable false e = refl

seen_observed : (q o : Bool) (e : Entry) → e.observed ≡ o → (seen_if q e).observed ≡ (q || o)
seen_observed true o e h = refl
seen_observed false o e h = h

pub to_observed : (test : ℕ → Bool) (es : List Entry) (i : ℕ) (e : Entry) → slice_get es i ≡ Some e → slice_get (observe test es) i ≡ Some (seen_if (test i) e)
to_observed test [] i e h = absurd (cc)
to_observed test (z ∷ es) zero e h = let same : z ≡ e = cc in ap (λ z. Some (seen_if (test zero) z)) same
to_observed test (z ∷ es) (suc i) e h = to_observed (λ i. test (suc i)) es i e h

pub of_observed : (test : ℕ → Bool) (es : List Entry) (i : ℕ) (f : Entry) → slice_get (observe test es) i ≡ Some f
    → (e : Entry) × (slice_get es i ≡ Some e) × (f.variable ≡ e.variable)
of_observed test [] i f h = absurd (cc)
of_observed test (z ∷ es) zero f h = let same : seen_if (test zero) z ≡ f = cc in (z, refl, sym (ap (λ e. e.variable) same) ∙ seen_variable (test zero) z)
of_observed test (z ∷ es) (suc i) f h = of_observed (λ i. test (suc i)) es i f h

-- ---- what stands in a scope

-- the variable stands there, observed or not
pub record Has (x : Variable) (i : ℕ) (o : Bool) (scope : List Entry) : Type 0 where
  pub entry : Entry
  pub at : slice_get scope i ≡ Some entry
  pub is : entry.variable ≡ x
  pub flag : entry.observed ≡ o

abbrev pub Distinct : List Entry → Type 0
Distinct scope = (i j : ℕ) (e f : Entry) → slice_get scope i ≡ Some e → slice_get scope j ≡ Some f → e.variable ≡ f.variable → i ≡ j

-- a variable that isn't bound at a path or below it
abbrev pub IsFresh : Variable → Path → Type 0
IsFresh x path = (q : Path) (n : ℕ) → x ≡ bound_at (path ++ q) n → ⊥

abbrev pub AreFresh : List Entry → Path → Type 0
AreFresh scope path = (i : ℕ) (e : Entry) → slice_get scope i ≡ Some e → IsFresh e.variable path

abbrev pub Lacks : List Entry → Variable → Type 0
Lacks scope x = (i : ℕ) (e : Entry) → slice_get scope i ≡ Some e → e.variable ≡ x → ⊥

pub record IsScope (scope : List Entry) (path : Path) : Type 0 where
  pub distinct : Distinct scope
  pub fresh : AreFresh scope path

-- what stands in one scope stands in the other, and is observed there too where the test says so
abbrev pub Keeps : (ℕ → Bool) → List Entry → List Entry → Type 0
Keeps test scope later = (x : Variable) (i : ℕ) (o : Bool) → Has x i o scope → Has x i (test i || o) later

abbrev pub no_one : ℕ → Bool
no_one i = false

pub keeps_all : (scope : List Entry) → Keeps no_one scope scope
keeps_all scope x i o h = h

pub keeps_push : (scope later : List Entry) (e : Entry) → Keeps no_one scope later → Keeps no_one scope (push later e)
keeps_push scope later e k x i o h =
    let g = k x i o h in record { entry = g.entry; at = push_old later e g.entry i g.at; is = g.is; flag = g.flag }

pub keeps_observed : (test : ℕ → Bool) (scope : List Entry) → Keeps test scope (observe test scope)
keeps_observed test scope x i o h =
    record {
      entry = seen_if (test i) h.entry;
      at = to_observed test scope i h.entry h.at;
      is = seen_variable (test i) h.entry ∙ h.is;
      flag = seen_observed (test i) o h.entry h.flag;
    }

-- ---- the scope of a part

fresh_below : (x : Variable) (path : Path) (j : ℕ) → IsFresh x path → IsFresh x (push path j)
fresh_below x path j h q n e = h (j ∷ q) n (e ∙ ap (λ p. bound_at p n) (push_append path q j))

pub below_all : (scope : List Entry) (path : Path) (j : ℕ) → AreFresh scope path → AreFresh scope (push path j)
below_all scope path j h i e at = fresh_below e.variable path j (h i e at)

pub in_part : (scope : List Entry) (path : Path) (j : ℕ) → IsScope scope path → IsScope scope (push path j)
in_part scope path j s = record { distinct = s.distinct; fresh = below_all scope path j s.fresh }

path_of : Variable → Path → Path
path_of argument other = other
path_of (bound_at path n) other = path

number_of : Variable → ℕ
number_of argument = 0
number_of (bound_at path n) = n

-- what is bound at a node is bound nowhere below
pub fresh_bound : (path : Path) (j n : ℕ) → IsFresh (bound_at path n) (push path j)
unfolding path_of
fresh_bound path j n q m e =
    let same : path ≡ push path j ++ q = ap (λ v. path_of v path) e in
    let long : length path ≡ length (push path j ++ q) = ap (λ p. length p) same in
    absurd (omega (arith, long, length-append (push path j) q, length_push path j))

pub lacks_bound : (scope : List Entry) (path : Path) (n : ℕ) → AreFresh scope path → Lacks scope (bound_at path n)
lacks_bound scope path n h i e at is = h i e at [] n (is ∙ ap (λ p. bound_at p n) (sym (append-nil path)))

-- and two that are bound at one node are two
pub lacks_second : (scope : List Entry) (path : Path) (e : Entry) → e.variable ≡ bound_at path 0 → AreFresh scope path → Lacks (push scope e) (bound_at path 1)
unfolding number_of
lacks_second scope path e is h i f at same =
    ⊎_elim (λ l. lacks_bound scope path 1 h i f l same)
    (λ r. let z : bound_at path 0 ≡ bound_at path 1 = sym is ∙ (ap (λ e. e.variable) r.1 ∙ same) in
    let n : 0 ≡ 1 = ap number_of z in absurd (omega (arith, n)))
    (of_push scope e f i at)

pub distinct_push : (scope : List Entry) (e : Entry) → Distinct scope → Lacks scope e.variable → Distinct (push scope e)
distinct_push scope e d l i j a b at bt same = ⊎_elim (λ p. ⊎_elim (λ q. d i j a b p q same) (λ q. absurd (l i a p (same ∙ sym (ap (λ e. e.variable) q.1)))) (of_push scope e b j bt))
    (λ p. ⊎_elim (λ q. absurd (l j b q (sym (ap (λ e. e.variable) p.1 ∙ same)))) (λ q. p.0 ∙ sym q.0) (of_push scope e b j bt))
    (of_push scope e a i at)

pub fresh_push : (scope : List Entry) (e : Entry) (path : Path) → AreFresh scope path → IsFresh e.variable path → AreFresh (push scope e) path
fresh_push scope e path h f i a at = ⊎_elim (λ p. h i a p) (λ p. subst (λ e. IsFresh e.variable path) p.1 f) (of_push scope e a i at)

pub observed_scope : (test : ℕ → Bool) (scope : List Entry) (path : Path) → IsScope scope path → IsScope (observe test scope) path
observed_scope test scope path s =
    record {
      distinct = λ i j e f at bt same. (let a = of_observed test scope i e at in let b = of_observed test scope j f bt in
          s.distinct i j a.0 b.0 a.1 b.1 (sym a.2 ∙ (same ∙ b.2)));
      fresh = λ i e at q n is. (let a = of_observed test scope i e at in s.fresh i a.0 a.1 q n (sym a.2 ∙ is));
    }
