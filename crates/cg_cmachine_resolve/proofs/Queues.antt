-- Blocks that wait to be resolved.
use Rattle.std.proofs.Common.{◌≡◌, ℕ, ◌+◌, ◌<◌, ◌≤◌, List, [], ◌∷◌, ◌++◌, length, get_or, take, map, refl, sym, ap, ◌∙◌, subst, arith, Bor, append-nil, OnOk, Result, Ok, Err}
use Rattle.std.proofs.lemmas.List.{append_assoc, map-append, take_more}
use Rattle.cg_cmachine_resolve.specs.Queues.{HaveJoined, block_weight, blocks_weight, cases_weight, statement_weight, waiting}
use Rattle.cg_ctree.specs.declared.tree.CCase.{CCase, fold_out-CCase}
use Rattle.cg_ctree.specs.declared.tree.COpnd.{COpnd}
use Rattle.cg_ctree.specs.declared.tree.CStmt.{CStmt, the_lemmas}
use Rattle.cg_ctree.specs.declared.tree.CStmt.TheVariants as form
use Rattle.cg_ctree.specs.Trees.{Stmt, branch, while, switch, Case, layer, case_layer, block_of, case_of, stmt_of, to_block, to_cases}

-- ---- weights of statements, by their forms

pub weight_if : (s : CStmt) (o : COpnd) (x y : List CStmt) → s ≡ form.If o x y → statement_weight (stmt_of s) ≡ 3 + (block_weight (block_of x) + block_weight (block_of y))
unfolding statement_weight
weight_if s o x y e = ap (λ z. statement_weight (stmt_of z)) e ∙ ap statement_weight weighed
  where
    weighed : stmt_of (form.If o x y) ≡ branch o (block_of x) (block_of y)
    weighed = search the_lemmas

pub weight_while : (s : CStmt) (o : COpnd) (x : List CStmt) → s ≡ form.While o x → statement_weight (stmt_of s) ≡ 2 + block_weight (block_of x)
unfolding statement_weight
weight_while s o x e = ap (λ z. statement_weight (stmt_of z)) e ∙ ap statement_weight weighed
  where
    weighed : stmt_of (form.While o x) ≡ while o (block_of x)
    weighed = search the_lemmas

pub weight_switch : (s : CStmt) (o : COpnd) (cs : List CCase) → s ≡ form.Switch o cs → statement_weight (stmt_of s) ≡ 1 + cases_weight (to_cases (map case_of cs))
unfolding statement_weight
weight_switch s o cs e = ap (λ z. statement_weight (stmt_of z)) e ∙ ap statement_weight weighed
  where
    weighed : stmt_of (form.Switch o cs) ≡ switch o (to_cases (map case_of cs))
    weighed = search the_lemmas

-- ---- weights of rows

cases_push : (cs : List Case) (c : Case) → cases_weight (to_cases (cs ++ c ∷ [])) ≡ cases_weight (to_cases cs) + (1 + block_weight c.body)
unfolding cases_weight to_cases
cases_push [] c = omega arith
cases_push (d ∷ cs) c = ap (λ n. (1 + block_weight d.body) + n) (cases_push cs c) ∙ omega arith

case_body : (c : CCase) → (case_of c).body ≡ block_of c.body
case_body c = ap (λ d. d.body) (fold_out-CCase Stmt Case layer case_layer c)

pub cases_turn : (cs : List CCase) (i : ℕ) (c : CCase) → i < length cs → c ≡ get_or cs i c
    → cases_weight (to_cases (map case_of (take (i + 1) cs))) ≡ cases_weight (to_cases (map case_of (take i cs))) + (1 + block_weight (block_of c.body))
cases_turn cs i c within item =
    ap (λ l. cases_weight (to_cases (map case_of l))) (take_more cs i c within ∙ ap (λ y. take i cs ++ y ∷ []) (sym item))
    ∙ ap (λ l. cases_weight (to_cases l)) (map-append case_of (take i cs) (c ∷ []))
    ∙ cases_push (map case_of (take i cs)) (case_of c)
    ∙ ap (λ b. cases_weight (to_cases (map case_of (take i cs))) + (1 + block_weight b)) (case_body c)

block_push : (ss : List Stmt) (s : Stmt) → block_weight (to_block (ss ++ s ∷ [])) ≡ block_weight (to_block ss) + statement_weight s
unfolding block_weight to_block
block_push [] s = omega arith
block_push (t ∷ ss) s = ap (λ n. statement_weight t + n) (block_push ss s) ∙ omega arith

pub block_turn : (ss : List CStmt) (i : ℕ) (s : CStmt) → i < length ss → s ≡ get_or ss i s
    → block_weight (block_of (take (i + 1) ss)) ≡ block_weight (block_of (take i ss)) + statement_weight (stmt_of s)
block_turn ss i s within item =
    ap (λ l. block_weight (block_of l)) (take_more ss i s within ∙ ap (λ y. take i ss ++ y ∷ []) (sym item))
    ∙ ap (λ l. block_weight (to_block l)) (map-append stmt_of (take i ss) (s ∷ []))
    ∙ block_push (map stmt_of (take i ss)) (stmt_of s)

pub nothing_weighs : (block_weight (block_of []) ≡ 0) × (cases_weight (to_cases (map case_of [])) ≡ 0)
unfolding block_weight cases_weight to_block to_cases
nothing_weighs = (refl, refl)

pub blocks_append : (bs cs : List (List CStmt)) → blocks_weight (bs ++ cs) ≡ blocks_weight bs + blocks_weight cs
blocks_append [] cs = omega arith
blocks_append (b ∷ bs) cs = ap (λ n. (1 + block_weight (block_of b)) + n) (blocks_append bs cs) ∙ omega arith

-- ---- blocks that join

pub joined_none : (n : ℕ) (a b : List (List CStmt)) → b ≡ a → HaveJoined n a b
joined_none n a b e = record { more = []; joined = e ∙ sym (append-nil a); weighs = omega arith }

pub joined_one : (n : ℕ) (a b : List (List CStmt)) (x : List CStmt) → b ≡ a ++ x ∷ [] → 1 + block_weight (block_of x) ≤ n → HaveJoined n a b
joined_one n a b x e le = record { more = x ∷ []; joined = e; weighs = omega (arith, le) }

pub joined_two : (n : ℕ) (a b c : List (List CStmt)) (x y : List CStmt) → b ≡ a ++ x ∷ [] → c ≡ b ++ y ∷ [] → 2 + (block_weight (block_of x) + block_weight (block_of y)) ≤ n → HaveJoined n a c
joined_two n a b c x y e f le = record { more = x ∷ y ∷ []; joined = f ∙ ap (λ l. l ++ y ∷ []) e ∙ append_assoc a (x ∷ []) (y ∷ []); weighs = omega (arith, le) }

pub joined_more : (n k : ℕ) (a b c : List (List CStmt)) → HaveJoined n a b → HaveJoined k b c → HaveJoined (n + k) a c
joined_more n k a b c j h = record {
  more = j.more ++ h.more;
  joined = h.joined ∙ ap (λ l. l ++ h.more) j.joined ∙ append_assoc a j.more h.more;
  weighs = omega (arith, blocks_append j.more h.more, j.weighs, h.weighs);
}

pub joined_within : (n k : ℕ) (a b : List (List CStmt)) → HaveJoined n a b → n ≤ k → HaveJoined k a b
joined_within n k a b j le = record { more = j.more; joined = j.joined; weighs = omega (arith, j.weighs, le) }

pub waiting_push : (queue more : List (Bor (List CStmt))) (block : Bor (List CStmt)) → more ≡ queue ++ block ∷ [] → waiting more ≡ waiting queue ++ block.now ∷ []
waiting_push queue more block e = ap waiting e ∙ map-append (λ b. b.now) queue (block ∷ [])

-- ---- turns

pub joins_turn : (cs : List CCase) (i : ℕ) (c : CCase) (a before after : List (List CStmt)) (x : List CStmt) → i < length cs → c ≡ get_or cs i c
    → HaveJoined (cases_weight (to_cases (map case_of (take i cs)))) a before → after ≡ before ++ x ∷ [] → x ≡ c.body
    → HaveJoined (cases_weight (to_cases (map case_of (take (i + 1) cs)))) a after
joins_turn cs i c a before after x within item j e same =
    subst (λ n. HaveJoined n a after) (sym (cases_turn cs i c within item))
    (joined_more (cases_weight (to_cases (map case_of (take i cs)))) (1 + block_weight (block_of c.body)) a before after j
    (joined_one (1 + block_weight (block_of c.body)) before after c.body (e ∙ ap (λ x. before ++ x ∷ []) same) (omega arith)))

pub blocks_turn : (ss : List CStmt) (i : ℕ) (s : CStmt) (a before after : List (List CStmt)) → i < length ss → s ≡ get_or ss i s
    → HaveJoined (block_weight (block_of (take i ss))) a before → HaveJoined (statement_weight (stmt_of s)) before after
    → HaveJoined (block_weight (block_of (take (i + 1) ss))) a after
blocks_turn ss i s a before after within item j h =
    subst (λ n. HaveJoined n a after) (sym (block_turn ss i s within item)) (joined_more (block_weight (block_of (take i ss))) (statement_weight (stmt_of s)) a before after j h)

-- ---- what statements join

pub if_joins : (s : CStmt) (o : COpnd) (x y x' y' : List CStmt) (a b : List (List CStmt)) → s ≡ form.If o x y → x' ≡ x → y' ≡ y → b ≡ a ++ (x' ∷ y' ∷ []) → HaveJoined (statement_weight (stmt_of s)) a b
if_joins s o x y x' y' a b e f g joined = record {
  more = x' ∷ y' ∷ [];
  joined = joined;
  weighs = let weight = weight_if s o x y e in rw (f, g) (omega (arith, weight));
}

pub while_joins : (s : CStmt) (o : COpnd) (x x' : List CStmt) (a b : List (List CStmt)) → s ≡ form.While o x → x' ≡ x → b ≡ a ++ x' ∷ [] → HaveJoined (statement_weight (stmt_of s)) a b
while_joins s o x x' a b e f joined = record {
  more = x' ∷ [];
  joined = joined;
  weighs = let weight = weight_while s o x e in rw f (omega (arith, weight));
}

pub switch_joins : (s : CStmt) (o : COpnd) (cs cs' : List CCase) (a b : List (List CStmt)) → s ≡ form.Switch o cs → cs' ≡ cs → HaveJoined (cases_weight (to_cases (map case_of cs'))) a b
    → HaveJoined (statement_weight (stmt_of s)) a b
switch_joins s o cs cs' a b e f j =
    let weight = weight_switch s o cs e in
    joined_within (cases_weight (to_cases (map case_of cs'))) (statement_weight (stmt_of s)) a b j (rw f (omega (arith, weight)))

pub on_ok : {A E : Type 0} {P Q : Type 0} (r : Result A E) → OnOk r P → (P → Q) → OnOk r Q
on_ok (Ok a) h go = go h
on_ok (Err e) h go = tt

pub on_ok_three : {A E : Type 0} {P Q R S : Type 0} (r : Result A E) → OnOk r P → OnOk r Q → OnOk r R → (P → Q → R → S) → OnOk r S
on_ok_three (Ok a) p q s go = go p q s
on_ok_three (Err e) p q s go = tt
