-- What is left to print, as equations.
use Rattle.std.proofs.Common.{◌≡◌, ℕ, ◌+◌, ◌<◌, ◌≤◌, List, [], ◌∷◌, ◌++◌, map, length, codes, decimal, refl, sym, ap, ◌∙◌, append_assoc, append-nil, length-append, arith, get_or, take, drop, take_all, ◌-◌, Bor, OnOk, Result, Ok, Err}
use Rattle.cg_ctree.specs.declared.tree.CCase.{CCase, fold_out-CCase}
use Rattle.cg_ctree.specs.declared.tree.COpnd.{COpnd}
use Rattle.cg_ctree.specs.declared.tree.CPath.{CPath}
use Rattle.cg_ctree.specs.declared.tree.CRhs.{CRhs}
use Rattle.cg_ctree.specs.declared.tree.CStmt.{CStmt, the_lemmas}
use Rattle.cg_ctree.specs.declared.tree.CStmt.TheVariants as form
use Rattle.cg_ctree.specs.Trees.{Stmt, assign, branch, while, switch, call, return', Block, Cases, Case, layer, case_layer, stmt_of, case_of, to_block, to_cases, block_of}
use Rattle.cg_ctext.specs.declared.statement.Task.{Task}
use Rattle.cg_ctext.specs.declared.statement.Task.TheVariants as task
use Rattle.cg_ctext.specs.Printed.{deeper, line_at, path_text, opnd_text, call_text, right_text, test_text, stmt_text, block_text, cases_text}
use Rattle.cg_ctext.specs.Waiting.{end_text, break_text, else_text, case_text, task_text, waits}
use Rattle.cg_ctext.proofs.Lines.{line_length}

-- ---- the stack

waits_push : (ts : List Task) (t : Task) → waits (ts ++ t ∷ []) ≡ task_text t ++ waits ts
unfolding waits
waits_push [] t = sym (append-nil (task_text t))
waits_push (u ∷ ts) t = ap (λ z. z ++ task_text u) (waits_push ts t) ∙ append_assoc (task_text t) (waits ts) (task_text u)

pub waits_none : waits [] ≡ []
unfolding waits
waits_none = refl

-- one more task
pub one_more : (ts us : List Task) (t : Task) → us ≡ ts ++ t ∷ [] → waits us ≡ task_text t ++ waits ts
one_more ts us t e = ap waits e ∙ waits_push ts t

-- two more, the second of which comes first
pub two_more : (ts us vs : List Task) (t u : Task) → us ≡ ts ++ t ∷ [] → vs ≡ us ++ u ∷ [] → waits vs ≡ task_text u ++ (task_text t ++ waits ts)
two_more ts us vs t u e f = one_more us vs u f ∙ ap (λ z. task_text u ++ z) (one_more ts us t e)

-- what is printed, and what is left behind it
pub goes_on : (old new front : List ℕ) (ts us vs : List Task) (t u : Task) (a b s : List ℕ) → new ≡ old ++ front → us ≡ ts ++ t ∷ [] → vs ≡ us ++ u ∷ [] → task_text t ≡ b → task_text u ≡ a → s ≡ front ++ (a ++ b)
    → new ++ waits vs ≡ old ++ s ++ waits ts
goes_on old new front ts us vs t u a b s e f g h i j =
    let left : List ℕ = waits ts in
    let two : waits vs ≡ a ++ (b ++ left) = two_more ts us vs t u f g ∙ ap (λ z. z ++ (task_text t ++ left)) i ∙ ap (λ z. a ++ (z ++ left)) h in
    ap (λ z. z ++ waits vs) e
    ∙ append_assoc old front (waits vs)
    ∙ ap (λ z. old ++ (front ++ z)) (two ∙ sym (append_assoc a b left))
    ∙ ap (λ z. old ++ z) (sym (append_assoc front (a ++ b) left) ∙ ap (λ z. z ++ left) (sym j))
    ∙ sym (append_assoc old s left)

-- what is printed is longer than the stack
pub grows : (old new front : List ℕ) (ts us vs : List Task) (t u : Task) → new ≡ old ++ front → 3 ≤ length front → us ≡ ts ++ t ∷ [] → vs ≡ us ++ u ∷ []
    → length old + length vs < length new + length ts
grows old new front ts us vs t u e h f g =
    let a : length new ≡ length old + length front = ap length e ∙ length-append old front in
    let b : length us ≡ length ts + 1 = ap length f ∙ length-append ts (t ∷ []) in
    let c : length vs ≡ length us + 1 = ap length g ∙ length-append us (u ∷ []) in
    omega (arith, a, b, c, h)

-- ---- the beginnings

-- the line of a test
pub test_length : (level : ℕ) (x : List ℕ) (o : COpnd) → 3 ≤ length (line_at level ++ test_text x o)
test_length level x o = let h = line_length level in simp (length-append, append_assoc) (omega (arith, h))

-- what holds where a call gave a value, of one fact and of two
pub on_both : {A E : Type 0} {P Q R : Type 0} (r : Result A E) → OnOk r P → OnOk r Q → (P → Q → R) → OnOk r R
on_both (Ok a) h i f = f h i
on_both (Err e) h i f = h

pub on_ok : {A E : Type 0} {P Q : Type 0} (r : Result A E) → OnOk r P → (P → Q) → OnOk r Q
on_ok (Ok a) h f = f h
on_ok (Err e) h f = h

pub else_length : (level : ℕ) → 3 ≤ length (line_at level ++ codes "} else {")
else_length level = let h = line_length level in simp length-append (omega (arith, h))

pub case_length : (level n : ℕ) → 3 ≤ length (line_at level ++ codes "case " ++ decimal n ++ codes ": {")
case_length level n = let h = line_length level in simp length-append (omega (arith, h))

module _ (level : ℕ) where
  pub if_is : (o : COpnd) (x y : Block) → stmt_text level (branch o x y) ≡ (line_at level ++ test_text (codes "if (") o) ++ (block_text (deeper level) x ++ else_text level y)
  unfolding stmt_text block_text cases_text else_text end_text
  if_is o x y = simp append_assoc

  pub while_is : (o : COpnd) (x : Block) → stmt_text level (while o x) ≡ (line_at level ++ test_text (codes "while (") o) ++ (block_text (deeper level) x ++ end_text level)
  unfolding stmt_text block_text cases_text end_text
  while_is o x = simp append_assoc

  pub switch_is : (o : COpnd) (cs : Cases) → stmt_text level (switch o cs) ≡ (line_at level ++ test_text (codes "switch (") o) ++ (cases_text (deeper level) cs ++ end_text level)
  unfolding stmt_text block_text cases_text end_text
  switch_is o cs = simp append_assoc

  pub else_is : (b : Block) → else_text level b ≡ (line_at level ++ codes "} else {") ++ (block_text (deeper level) b ++ end_text level)
  unfolding else_text
  else_is b = simp append_assoc

  pub case_is : (c : CCase) → case_text level (case_of c) ≡ (line_at level ++ codes "case " ++ decimal c.tag ++ codes ": {") ++ (block_text (deeper level) (block_of c.body) ++ break_text level)
  unfolding case_text
  case_is c = ap (case_text level) (fold_out-CCase Stmt Case layer case_layer c) ∙ simp append_assoc

  -- what is left of each
  statements_at : (inner : ℕ) (x : Bor (List CStmt)) → inner ≡ deeper level → task_text (task.Statements inner x) ≡ block_text (deeper level) (block_of x.now)
  unfolding task_text
  statements_at inner x e = ap (λ l. block_text l (block_of x.now)) e

  cases_at : (inner : ℕ) (cs : Bor (List CCase)) → inner ≡ deeper level → task_text (task.Cases inner cs) ≡ cases_text (deeper level) (to_cases (map case_of cs.now))
  unfolding task_text
  cases_at inner cs e = ap (λ l. cases_text l (to_cases (map case_of cs.now))) e

  end_at : task_text (task.End level) ≡ end_text level
  unfolding task_text
  end_at = refl

  else_at : (x : Bor (List CStmt)) → task_text (task.Else level x) ≡ else_text level (block_of x.now)
  unfolding task_text
  else_at x = refl

  break_at : task_text (task.Break level) ≡ break_text level
  unfolding task_text
  break_at = refl

  module _ (old new : List ℕ) (ts us vs : List Task) (inner : ℕ) (deep : inner ≡ deeper level) where
    pub begins_if : (o : COpnd) (x y : Bor (List CStmt)) → new ≡ old ++ (line_at level ++ test_text (codes "if (") o) → us ≡ ts ++ task.Else level y ∷ [] → vs ≡ us ++ task.Statements inner x ∷ []
        → new ++ waits vs ≡ old ++ stmt_text level (branch o (block_of x.now) (block_of y.now)) ++ waits ts
    begins_if o x y e f g = goes_on old new (line_at level ++ test_text (codes "if (") o) ts us vs (task.Else level y) (task.Statements inner x) _ _ _ e f g (else_at y) (statements_at inner x deep) (if_is o (block_of x.now) (block_of y.now))

    pub begins_while : (o : COpnd) (x : Bor (List CStmt)) → new ≡ old ++ (line_at level ++ test_text (codes "while (") o) → us ≡ ts ++ task.End level ∷ [] → vs ≡ us ++ task.Statements inner x ∷ []
        → new ++ waits vs ≡ old ++ stmt_text level (while o (block_of x.now)) ++ waits ts
    begins_while o x e f g = goes_on old new (line_at level ++ test_text (codes "while (") o) ts us vs (task.End level) (task.Statements inner x) _ _ _ e f g end_at (statements_at inner x deep) (while_is o (block_of x.now))

    pub begins_switch : (o : COpnd) (cs : Bor (List CCase)) → new ≡ old ++ (line_at level ++ test_text (codes "switch (") o) → us ≡ ts ++ task.End level ∷ [] → vs ≡ us ++ task.Cases inner cs ∷ []
        → new ++ waits vs ≡ old ++ stmt_text level (switch o (to_cases (map case_of cs.now))) ++ waits ts
    begins_switch o cs e f g = goes_on old new (line_at level ++ test_text (codes "switch (") o) ts us vs (task.End level) (task.Cases inner cs) _ _ _ e f g end_at (cases_at inner cs deep) (switch_is o (to_cases (map case_of cs.now)))

    pub begins_else : (x : Bor (List CStmt)) → new ≡ old ++ (line_at level ++ codes "} else {") → us ≡ ts ++ task.End level ∷ [] → vs ≡ us ++ task.Statements inner x ∷ []
        → new ++ waits vs ≡ old ++ else_text level (block_of x.now) ++ waits ts
    begins_else x e f g = goes_on old new (line_at level ++ codes "} else {") ts us vs (task.End level) (task.Statements inner x) _ _ _ e f g end_at (statements_at inner x deep) (else_is (block_of x.now))

    pub begins_case : (c : CCase) (x : Bor (List CStmt)) → x.now ≡ c.body → new ≡ old ++ (line_at level ++ codes "case " ++ decimal c.tag ++ codes ": {") → us ≡ ts ++ task.Break level ∷ [] → vs ≡ us ++ task.Statements inner x ∷ []
        → new ++ waits vs ≡ old ++ case_text level (case_of c) ++ waits ts
    begins_case c x i e f g = goes_on old new (line_at level ++ codes "case " ++ decimal c.tag ++ codes ": {") ts us vs (task.Break level) (task.Statements inner x) _ _ _ e f g break_at (statements_at inner x deep ∙ ap (λ z. block_text (deeper level) (block_of z)) i) (case_is c)

-- ---- statements, by their form

pub at_assign : (level : ℕ) (s : CStmt) (p : CPath) (r : CRhs) → s ≡ form.Assign p r → stmt_text level (stmt_of s) ≡ stmt_text level (assign p r)
at_assign level s p r e = ap (λ z. stmt_text level (stmt_of z)) e ∙ ap (stmt_text level) (search the_lemmas)

pub at_if : (level : ℕ) (s : CStmt) (o : COpnd) (x y : List CStmt) → s ≡ form.If o x y → stmt_text level (stmt_of s) ≡ stmt_text level (branch o (block_of x) (block_of y))
at_if level s o x y e = ap (λ z. stmt_text level (stmt_of z)) e ∙ ap (stmt_text level) (search the_lemmas)

pub at_while : (level : ℕ) (s : CStmt) (o : COpnd) (x : List CStmt) → s ≡ form.While o x → stmt_text level (stmt_of s) ≡ stmt_text level (while o (block_of x))
at_while level s o x e = ap (λ z. stmt_text level (stmt_of z)) e ∙ ap (stmt_text level) (search the_lemmas)

pub at_switch : (level : ℕ) (s : CStmt) (o : COpnd) (cs : List CCase) → s ≡ form.Switch o cs → stmt_text level (stmt_of s) ≡ stmt_text level (switch o (to_cases (map case_of cs)))
at_switch level s o cs e = ap (λ z. stmt_text level (stmt_of z)) e ∙ ap (stmt_text level) (search the_lemmas)

pub at_call : (level : ℕ) (s : CStmt) (f : List ℕ) (os : List COpnd) → s ≡ form.Call f os → stmt_text level (stmt_of s) ≡ stmt_text level (call f os)
at_call level s f os e = ap (λ z. stmt_text level (stmt_of z)) e ∙ ap (stmt_text level) (search the_lemmas)

pub at_return : (level : ℕ) (s : CStmt) (o : COpnd) → s ≡ form.Return o → stmt_text level (stmt_of s) ≡ stmt_text level (return' o)
at_return level s o e = ap (λ z. stmt_text level (stmt_of z)) e ∙ ap (stmt_text level) (search the_lemmas)

-- ---- what is left, by its form

pub task_statements : (t : Task) (level : ℕ) (ss : Bor (List CStmt)) → t ≡ task.Statements level ss → task_text t ≡ block_text level (block_of ss.now)
unfolding task_text
task_statements t level ss e = ap task_text e

pub task_cases : (t : Task) (level : ℕ) (cs : Bor (List CCase)) → t ≡ task.Cases level cs → task_text t ≡ cases_text level (to_cases (map case_of cs.now))
unfolding task_text
task_cases t level cs e = ap task_text e

pub task_end : (t : Task) (level : ℕ) → t ≡ task.End level → task_text t ≡ line_at level ++ codes "}"
unfolding task_text end_text
task_end t level e = ap task_text e

pub task_else : (t : Task) (level : ℕ) (ss : Bor (List CStmt)) → t ≡ task.Else level ss → task_text t ≡ else_text level (block_of ss.now)
unfolding task_text
task_else t level ss e = ap task_text e

pub task_break : (t : Task) (level : ℕ) → t ≡ task.Break level → task_text t ≡ line_at level ++ codes "} break;"
unfolding task_text break_text
task_break t level e = ap task_text e

-- ---- lists

-- the first of a list, and the others
pub first_is : {A : Type 0} (xs : List A) (x : A) → 1 ≤ length xs → x ≡ get_or xs 0 x → xs ≡ x ∷ take (length xs - 1) (drop 1 xs)
first_is [] x h e = absurd (omega (arith, h))
first_is (y ∷ xs) x h e =
    let others : take (length (y ∷ xs) - 1) xs ≡ xs = take_all (length (y ∷ xs) - 1) xs (omega arith) in ap (λ z. z ∷ xs) (sym e) ∙ ap (λ z. x ∷ z) (sym others)

pub statements_none : (level : ℕ) (ss : List CStmt) → ss ≡ [] → block_text level (block_of ss) ≡ []
unfolding stmt_text block_text cases_text to_block
statements_none level ss e = ap (λ z. block_text level (block_of z)) e

pub statements_some : (level : ℕ) (ss rest : List CStmt) (s : CStmt) → ss ≡ s ∷ rest → block_text level (block_of ss) ≡ stmt_text level (stmt_of s) ++ block_text level (block_of rest)
unfolding stmt_text block_text cases_text to_block
statements_some level ss rest s e = ap (λ z. block_text level (block_of z)) e

pub cases_none : (level : ℕ) (cs : List CCase) → cs ≡ [] → cases_text level (to_cases (map case_of cs)) ≡ []
unfolding stmt_text block_text cases_text to_cases
cases_none level cs e = ap (λ z. cases_text level (to_cases (map case_of z))) e

pub cases_some : (level : ℕ) (cs rest : List CCase) (c : CCase) → cs ≡ c ∷ rest → cases_text level (to_cases (map case_of cs)) ≡ case_text level (case_of c) ++ cases_text level (to_cases (map case_of rest))
unfolding stmt_text block_text cases_text to_cases case_text break_text
cases_some level cs rest c e = ap (λ z. cases_text level (to_cases (map case_of z))) e ∙ simp append_assoc

-- the first of them, and the others later
pub statements_first : (level : ℕ) (old : List ℕ) (ts us : List Task) (ss : List CStmt) (s : CStmt) (rest : Bor (List CStmt)) → ss ≡ s ∷ rest.now → us ≡ ts ++ task.Statements level rest ∷ []
    → old ++ stmt_text level (stmt_of s) ++ waits us ≡ old ++ block_text level (block_of ss) ++ waits ts
statements_first level old ts us ss s rest e f =
    let a : waits us ≡ block_text level (block_of rest.now) ++ waits ts = one_more ts us (task.Statements level rest) f ∙ ap (λ z. z ++ waits ts) (task_statements (task.Statements level rest) level rest refl) in
    let b : block_text level (block_of ss) ≡ stmt_text level (stmt_of s) ++ block_text level (block_of rest.now) = statements_some level ss rest.now s e in
    rw (a, b) (simp append_assoc)

pub cases_first : (level : ℕ) (old : List ℕ) (ts us : List Task) (cs : List CCase) (c : CCase) (rest : Bor (List CCase)) → cs ≡ c ∷ rest.now → us ≡ ts ++ task.Cases level rest ∷ []
    → old ++ case_text level (case_of c) ++ waits us ≡ old ++ cases_text level (to_cases (map case_of cs)) ++ waits ts
cases_first level old ts us cs c rest e f =
    let a : waits us ≡ cases_text level (to_cases (map case_of rest.now)) ++ waits ts = one_more ts us (task.Cases level rest) f ∙ ap (λ z. z ++ waits ts) (task_cases (task.Cases level rest) level rest refl) in
    let b : cases_text level (to_cases (map case_of cs)) ≡ case_text level (case_of c) ++ cases_text level (to_cases (map case_of rest.now)) = cases_some level cs rest.now c e in
    rw (a, b) (simp append_assoc)

-- ---- all of it

-- only a body's statements wait
pub begins_all : (old : List ℕ) (none ts : List Task) (ss : Bor (List CStmt)) → none ≡ [] → ts ≡ none ++ task.Statements 1 ss ∷ [] → old ++ waits ts ≡ old ++ block_text 1 (block_of ss.now)
begins_all old none ts ss e f =
    ap (λ z. old ++ z)
    (one_more none ts (task.Statements 1 ss) f
    ∙ ap (λ z. z ++ waits none) (task_statements (task.Statements 1 ss) 1 ss refl)
    ∙ ap (λ z. block_text 1 (block_of ss.now) ++ z) (ap waits e ∙ waits_none)
    ∙ append-nil (block_text 1 (block_of ss.now)))

-- what waits falls in each step
pub falls : (old new : List ℕ) (ts us vs : List Task) (t : Task) → ts ≡ us ++ t ∷ [] → new ++ waits vs ≡ old ++ task_text t ++ waits us → length old + length vs ≤ length new + length us
    → length (waits vs) + length vs < length (waits ts) + length ts
falls old new ts us vs t e f g =
    let a : length ts ≡ length us + 1 = ap length e ∙ length-append us (t ∷ []) in
    let b : length (waits ts) ≡ length (task_text t) + length (waits us) = ap length (one_more us ts t e) ∙ length-append (task_text t) (waits us) in
    let c : length new + length (waits vs) ≡ length (old ++ task_text t) + length (waits us) = sym (length-append new (waits vs)) ∙ ap length f ∙ length-append (old ++ task_text t) (waits us) in
    let d : length (old ++ task_text t) ≡ length old + length (task_text t) = length-append old (task_text t) in
    omega (arith, a, b, c, d, g)

-- ---- what is printed at once

pub assign_is : (level : ℕ) (p : CPath) (r : CRhs) → stmt_text level (assign p r) ≡ line_at level ++ path_text p ++ codes " = " ++ right_text r ++ codes ";"
unfolding stmt_text block_text cases_text
assign_is level p r = refl

pub call_is : (level : ℕ) (f : List ℕ) (os : List COpnd) → stmt_text level (call f os) ≡ line_at level ++ call_text f os ++ codes ";"
unfolding stmt_text block_text cases_text
call_is level f os = refl

pub return_is : (level : ℕ) (o : COpnd) → stmt_text level (return' o) ≡ line_at level ++ codes "return " ++ opnd_text o ++ codes ";"
unfolding stmt_text block_text cases_text
return_is level o = refl

pub ruleset waiting_steps = (waits_none, assign_is, call_is, return_is, at_assign, at_if, at_while, at_switch, at_call, at_return, statements_none, statements_some, cases_none, cases_some, one_more, task_statements, task_cases, task_end, task_else, task_break)
