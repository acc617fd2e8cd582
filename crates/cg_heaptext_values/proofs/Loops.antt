-- What the loops over tokens compute.
use Rattle.std.proofs.Common.{◌≡◌, ℕ, zero, suc, ◌+◌, ◌-◌, ◌<◌, ◌≤◌, ◌⊎◌, inl, inr, Bool, true, false, List, [], drop, length, refl, sym, ap, ◌∙◌, subst, arith}
use Rattle.std.proofs.Math.Nat.{min-eq_left, min-eq_right}
use Rattle.std.proofs.lemmas.Bool.{cases_lt, false≢true}
use Rattle.std.proofs.lemmas.List.{drop_all}
use Rattle.std.specs.Prelude.{min}
use Rattle.cg_heaptext_def.specs.Tokens.{Lexeme}
use Rattle.cg_heaptext_entries.specs.Index.{Before}
use Rattle.cg_heaptext_lexer.specs.Next.{Cursor, Gives, token_of}
use Rattle.cg_heaptext_lexer.specs.declared.token.TokenKind.{TokenKind}
use Rattle.cg_heaptext_values.specs.declared.turn.Leading.{Leading}
use Rattle.cg_heaptext_values.specs.declared.turn.Leading.TheVariants as leading
use Rattle.cg_heaptext_values.specs.declared.turn.Turn.{Turn}
use Rattle.cg_heaptext_values.specs.declared.turn.Turn.TheVariants.{Opens, Closes, Parts, Over}
use Rattle.cg_heaptext_values.specs.Turns.{Pass, Seek, layers_of, lead, lead_on, leads, passed, passes, read_leading, read_turn, seeking, seeks, sought, turn}
use Rattle.cg_heaptext_values.specs.Turns as turns
use Rattle.cg_heaptext_values.specs.Values.{begins, begins_at}
use Rattle.cg_heaptext_values.proofs.Going.{Going, Looks, Sees, Shortens, goes_on, seen_shorter}

sees_turns : Sees turn read_turn
sees_turns = record { numbers = λ x. refl; lowers = λ x. refl; uppers = λ x. refl; signs = λ x. refl }

-- to the end of a value
pub looks_to_end : (d : ℕ) → Looks turn read_turn (passed (turns.inside d)) (λ a. passed (passes a d))
looks_to_end d = record { sees = sees_turns; at_token = λ t ts. refl; at_end = λ x. refl }

-- for the least depth of a comma
pub looks_for_commas : (d m : ℕ) → Looks turn read_turn (sought (seeking d m)) (λ a. sought (seeks a d m))
looks_for_commas d m = record { sees = sees_turns; at_token = λ t ts. refl; at_end = λ x. refl }

-- for what opens in front, behind so many
pub looks_in_front : (n : ℕ) → Looks leads read_leading (λ ts. n + lead ts) (λ a ts. n + lead_on a (lead ts))
looks_in_front n = record {
  sees = record { numbers = λ x. refl; lowers = λ x. refl; uppers = λ x. refl; signs = λ x. refl };
  at_token = λ t ts. refl;
  at_end = λ x. refl;
}

abbrev pub is_token : Turn → Bool
is_token Over = false
is_token _ = true

pub turn_shortens : (a : Turn) → is_token a ≡ true → Shortens read_turn a
turn_shortens a e = record { unknown = λ x s. absurd (false≢true (ap is_token (sym s) ∙ e)); ended = λ x s. absurd (false≢true (ap is_token (sym s) ∙ e)) }

abbrev opens : Leading → Bool
opens leading.Opens = true
opens _ = false

pub opening_shortens : Shortens read_leading leading.Opens
opening_shortens = record { unknown = λ x s. absurd (false≢true (ap opens (sym s))); ended = λ x s. absurd (false≢true (ap opens (sym s))) }

-- the same function, said otherwise
pub also : {Out : Type 0} (first now : Cursor) (F G H : List Lexeme → Out) → ((ts : List Lexeme) → G ts ≡ H ts) → Going first now F G → Going first now F H
also first now F G H same w ts b = let p = w ts b in (p.0, p.1, p.2 ∙ same p.0)

-- what stands once it is decided, and what is made of it
pub ended_as : {Out : Type 0} (first now : Cursor) (F : List Lexeme → Out) (x : Out) (f : Out → ℕ) (n : ℕ) → n ≡ f x → Going first now F (λ ts. x) → (ts : List Lexeme) → Before first ts → n ≡ f (F ts)
ended_as first now F x f n e w ts b = e ∙ ap f (sym (w ts b).2)

pub ended_there : (first now : Cursor) (F : List Lexeme → Bool × List Lexeme) (x : Bool) → Going first now F (λ ts. (x, ts)) → (ts : List Lexeme) → Before first ts → (x ≡ (F ts).0) × Before now (F ts).1
ended_there first now F x w ts b =
    let p = w ts b in
    (sym (ap (λ (q : Bool × List Lexeme). q.0) p.2), subst (λ (q : Bool × List Lexeme). Before now q.1) (sym p.2) p.1)

-- ---- a token more

pub pass_on : (k : TokenKind) (x : List ℕ) (first old new : Cursor) (t : Lexeme) (a : Turn) (d : ℕ) (p : Pass) → t.token ≡ token_of k x → Going first old (passed (turns.inside 0)) (passed (turns.inside d)) → Gives k old t new → a ≡ read_turn k x → passes a d ≡ p
    → Going first new (passed (turns.inside 0)) (passed p)
pass_on k x first old new t a d p e w g same next =
    also first new (passed (turns.inside 0)) (passed (passes a d)) (passed p) (λ ts. ap (λ q. passed q ts) next)
    (goes_on turn read_turn (passed (turns.inside d)) (λ a. passed (passes a d)) (looks_to_end d) (passed (turns.inside 0)) k x first old new t a e w g same)

pub seek_on : (n : ℕ) (k : TokenKind) (x : List ℕ) (first old new : Cursor) (t : Lexeme) (a : Turn) (d m : ℕ) (s : Seek) → t.token ≡ token_of k x → Going first old (sought (seeking 0 n)) (sought (seeking d m)) → Gives k old t new → a ≡ read_turn k x → seeks a d m ≡ s
    → Going first new (sought (seeking 0 n)) (sought s)
seek_on n k x first old new t a d m s e w g same next =
    also first new (sought (seeking 0 n)) (sought (seeks a d m)) (sought s) (λ ts. ap (λ q. sought q ts) next)
    (goes_on turn read_turn (sought (seeking d m)) (λ a. sought (seeks a d m)) (looks_for_commas d m) (sought (seeking 0 n)) k x first old new t a e w g same)

pub lead_more : (k : TokenKind) (x : List ℕ) (first old new : Cursor) (t : Lexeme) (a : Leading) (n : ℕ) (G : List Lexeme → ℕ) → t.token ≡ token_of k x → Going first old lead (λ ts. n + lead ts) → Gives k old t new → a ≡ read_leading k x
    → ((ts : List Lexeme) → n + lead_on a (lead ts) ≡ G ts) → Going first new lead G
lead_more k x first old new t a n G e w g same next =
    also first new lead (λ ts. n + lead_on a (lead ts)) G next (goes_on leads read_leading (λ ts. n + lead ts) (λ a ts. n + lead_on a (lead ts)) (looks_in_front n) lead k x first old new t a e w g same)

pub turn_shorter : (a : Turn) → is_token a ≡ true → (k : TokenKind) (x : List ℕ) (old new : Cursor) (t : Lexeme) → a ≡ read_turn k x → Gives k old t new → length new.rest < length old.rest
turn_shorter a e = seen_shorter read_turn a (turn_shortens a e)

pub opening_shorter : (k : TokenKind) (x : List ℕ) (old new : Cursor) (t : Lexeme) → leading.Opens ≡ read_leading k x → Gives k old t new → length new.rest < length old.rest
opening_shorter = seen_shorter read_leading leading.Opens opening_shortens

least_more : (m d : ℕ) → min (m + 1) (d + 1) ≡ min m d + 1
least_more m d = at (cases_lt m d)
  where
    at : (m < d) ⊎ (d ≤ m) → min (m + 1) (d + 1) ≡ min m d + 1
    at (inl l) = let a : min m d ≡ m = min-eq_left (omega (arith, l)) in let b : min (m + 1) (d + 1) ≡ m + 1 = min-eq_left (omega (arith, l)) in b ∙ ap (λ x. x + 1) (sym a)
    at (inr l) = let a : min m d ≡ d = min-eq_right l in let b : min (m + 1) (d + 1) ≡ d + 1 = min-eq_right (omega (arith, l)) in b ∙ ap (λ x. x + 1) (sym a)

-- ---- how brackets are counted

pub pass_opens : (d : ℕ) → passes Opens d ≡ turns.inside (d + 1)
pass_opens d = ap turns.inside (omega arith)

pub pass_closes_outer : (d : ℕ) → d ≡ 0 → passes Closes d ≡ turns.ended false
pass_closes_outer zero e = refl
pass_closes_outer (suc d) e = absurd (omega arith)

pub pass_closes_inner : (d : ℕ) → 0 < d → passes Closes d ≡ turns.inside (d - 1)
pass_closes_inner zero e = absurd (omega arith)
pass_closes_inner (suc d) e = ap turns.inside (omega arith)

pub pass_parts_outer : (d : ℕ) → d ≡ 0 → passes Parts d ≡ turns.ended true
pass_parts_outer zero e = refl
pass_parts_outer (suc d) e = absurd (omega arith)

pub pass_parts_inner : (d : ℕ) → 0 < d → passes Parts d ≡ turns.inside d
pass_parts_inner zero e = absurd (omega arith)
pass_parts_inner (suc d) e = refl

pub seek_opens : (d m : ℕ) → seeks Opens d m ≡ seeking (d + 1) m
seek_opens d m = ap (λ x. seeking x m) (omega arith)

pub seek_closes_outer : (d m : ℕ) → d ≤ 1 → seeks Closes d m ≡ turns.found m
seek_closes_outer zero m e = refl
seek_closes_outer (suc zero) m e = refl
seek_closes_outer (suc (suc d)) m e = absurd (omega arith)

pub seek_closes_inner : (d m : ℕ) → 1 < d → seeks Closes d m ≡ seeking (d - 1) m
seek_closes_inner zero m e = absurd (omega arith)
seek_closes_inner (suc zero) m e = absurd (omega arith)
seek_closes_inner (suc (suc d)) m e = ap (λ x. seeking x m) (omega arith)

pub seek_parts : (d m : ℕ) → seeks Parts d (m + 1) ≡ seeking d (min m (d - 1) + 1)
seek_parts zero m = ap (seeking zero) (least_more m 0 ∙ ap (λ x. min m x + 1) (omega arith))
seek_parts (suc d) m = ap (seeking (suc d)) (ap (λ x. min (m + 1) x) (omega arith) ∙ least_more m d ∙ ap (λ x. min m x + 1) (omega arith))

-- ---- tokens that are passed over, and what begins a value

looks_behind : (n : ℕ) → 0 < n → Looks (λ t. n) (λ k x. n) (drop n) (λ m. drop (m - 1))
looks_behind zero e = absurd (omega arith)
looks_behind (suc n) e = record {
  sees = record { numbers = λ x. refl; lowers = λ x. refl; uppers = λ x. refl; signs = λ x. refl };
  at_token = λ t ts. ap (λ m. drop m ts) (omega arith);
  at_end = λ x. let e : n ≡ suc n - 1 = omega arith in sym (drop_all n [] (omega arith)) ∙ ap (λ m. drop m []) e;
}

-- one token less
pub drop_one : (k : TokenKind) (x : List ℕ) (first old new : Cursor) (t : Lexeme) (n : ℕ) (F : List Lexeme → List Lexeme) → t.token ≡ token_of k x → 0 < n → Going first old F (drop n) → Gives k old t new → Going first new F (drop (n - 1))
drop_one k x first old new t n F e more w g = goes_on (λ t. n) (λ k x. n) (drop n) (λ m. drop (m - 1)) (looks_behind n more) F k x first old new t n e w g refl

pub begins_there : (k : TokenKind) (x : List ℕ) (first new : Cursor) (t : Lexeme) (a : Turn) → t.token ≡ token_of k x → Gives k first t new → a ≡ read_turn k x → (ts : List Lexeme) → Before first ts → begins_at a ≡ begins ts
begins_there k x first new t a e g same ts b =
    let p = goes_on turn read_turn begins (λ a ts. begins_at a) (record { sees = sees_turns; at_token = λ t ts. refl; at_end = λ x. refl }) begins k x first first new t a e (λ ts b. (ts, b, refl)) g same ts b in
    sym p.2

-- so many are passed over, and none is left
pub dropped : (first now : Cursor) (n : ℕ) → now ≡ first → ((ts : List Lexeme) → Before first ts → n ≡ layers_of ts) → Going first now (λ ts. drop (layers_of ts) ts) (drop n)
dropped first now n here is ts b = (ts, subst (λ (c : Cursor). Before c ts) (sym here) b, ap (λ m. drop m ts) (sym (is ts b)))

pub none_dropped : (first now : Cursor) (F : List Lexeme → List Lexeme) (n : ℕ) → n ≡ 0 → Going first now F (drop n) → (ts : List Lexeme) → Before first ts → Before now (F ts)
none_dropped first now F n none w ts b = let p = w ts b in subst (Before now) (sym (p.2 ∙ ap (λ m. drop m p.0) none)) p.1
