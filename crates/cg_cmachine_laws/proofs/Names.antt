-- What is run doesn't hang on the names of parameters and locals, nor on the order of functions.
use Rattle.std.proofs.Common.{◌≡◌, ℕ, zero, suc, Bool, true, false, cond, nat_eq, Option, Some, None, List, [], ◌∷◌, map, length, take, drop, nat_le, replicate, if◌then◌else◌, refl, sym, ap, ◌∙◌, bytes_eq, option_map, flat_map}
use Rattle.std.proofs.lemmas.Slice.Eq.{bytes_eq-Decides}
use Rattle.std.specs.Bool.{one_answer}
use Rattle.cg_base.specs.declared.kind.Word.TheVariants.{U8}
use Rattle.cg_cmachine_def.specs.BuiltIns.{BuiltIn, Given, called, built_in}
use Rattle.cg_cmachine_def.specs.Layouts.{Layout, size, layout, walk, pointed}
use Rattle.cg_cmachine_laws.specs.Laws.{OrderDoesNotMatter, NamesDoNotMatter}
use Rattle.cg_cmachine_def.specs.Operands.{Value, typed, Variable, Frame, look, address_at, only, present, target_of, read, read_members, read_arrow, judge, judge_all, word_in, address_in, give, scalars_of}
use Rattle.cg_cmachine_def.specs.Operations.{converted, computed, flipped, flag, word_value}
use Rattle.cg_cmachine_def.specs.Outcomes.{Judged, ok, no, on, found, State, Outcome, done, stuck, needs, astray, bind, lift, spend}
use Rattle.cg_cmachine_laws.specs.Renamed.{renamed_path, renamed_operand, renamed_right, renamed_stmt, renamed_block, renamed_cases, renamed_decl, renamed_body, renamed_function}
use Rattle.cg_cmachine_def.specs.Runs.{Linked, Flow, goes, back, onward, choose, judged_word, plain, find, linked_to, Calls, Callee, built, abstract', own, without_body, in_program, by_name, callee, agree, answered, call_abstract, assigned, assigned_given, assigned_call, dropped_call, run_assign, turns, run_stmt, run_block, run_cases, unset, enter, returned, run_frame, run_body, run_function, calls_in, filled, fill, start_abstract, start_body, start, crun}
use Rattle.cg_cmachine_def.specs.Targets.{Written, spliced, written_cell, with_scalars, write_members, write_arrow, write}
use Rattle.cg_ctree.specs.declared.tree.CDecl.{CDecl}
use Rattle.cg_ctree.specs.declared.tree.COpnd.{COpnd}
use Rattle.cg_ctree.specs.declared.tree.COpnd.TheVariants.{Number, Path}
use Rattle.cg_ctree.specs.declared.tree.CPath.{CPath}
use Rattle.cg_ctree.specs.declared.tree.CRhs.{CRhs}
use Rattle.cg_ctree.specs.declared.tree.CRhs.TheVariants.{Opnd, Conv, Binary, Flip, IsNull, Call, New}
use Rattle.cg_ctree.specs.declared.tree.CStruct.{CStruct}
use Rattle.cg_ctree.specs.declared.why.Why.TheVariants.{KindsDiffer}
use Rattle.cg_ctree.specs.Trees.{Stmt, assign, branch, while, switch, call, return', Block, stop, also, Cases, end, case, Body, Function}
use Rattle.cg_heap.specs.Calls.{Answer}
use Rattle.cg_heap.specs.declared.cell.Scalar.{Scalar}
use Rattle.cg_heap.specs.declared.cell.Scalar.TheVariants.{Unset}
use Rattle.cg_heap.specs.declared.foreign.Link.{Link}
use Rattle.cg_heap.specs.Stored.{Stored}

-- ---- what judging gives, with something done to it

abbrev mapped : {A B : Type 0} → (A → B) → Judged A → Judged B
mapped k (ok a) = ok (k a)
mapped k (no why) = no why

mapped_on : {A B C : Type 0} (k : B → C) (j : Judged A) (f : A → Judged B) (g : A → Judged C) → ((a : A) → g a ≡ mapped k (f a)) → on j g ≡ mapped k (on j f)
mapped_on k (ok a) f g h = h a
mapped_on k (no why) f g h = refl

mapped_on_mapped : {A B C D : Type 0} (i : A → B) (k : C → D) (j : Judged A) (x : Judged B) (f : A → Judged C) (g : B → Judged D) → x ≡ mapped i j → ((a : A) → g (i a) ≡ mapped k (f a)) → on x g ≡ mapped k (on j f)
mapped_on_mapped i k j x f g e h = ap (λ y. on y g) e ∙ go j
  where
    go : (j : Judged _) → on (mapped i j) g ≡ mapped k (on j f)
    go (ok a) = h a
    go (no why) = refl

-- ---- frames, where a variable x is named r x instead

module _ (r : List ℕ → List ℕ) where
  abbrev with_name : Variable → Variable
  with_name v = record { name = r v.name; layout = v.layout; scalars = v.scalars }

  abbrev with_names : Frame → Frame
  with_names = map with_name

  abbrev written_names : Written → Written
  written_names w = record { frame = with_names w.frame; store = w.store }

  -- a run of statements, with the frame's variables named so
  abbrev moved : Outcome Flow → Outcome Flow
  moved (done (goes fr) s left) = done (goes (with_names fr)) s left
  moved (done (back us) s left) = done (back us) s left
  moved (stuck why m) = stuck why m
  moved (needs m) = needs m
  moved astray = astray

  moved_lift : {A : Type 0} (m : Stored) (j : Judged A) (x : Judged A) (f g : A → Outcome Flow) → x ≡ j → ((a : A) → g a ≡ moved (f a)) → lift m x g ≡ moved (lift m j f)
  moved_lift m j x f g e h = ap (λ y. lift m y g) e ∙ go j
    where
      go : (j : Judged _) → lift m j g ≡ moved (lift m j f)
      go (ok a) = h a
      go (no why) = refl

  moved_lift_mapped : {A B : Type 0} (k : A → B) (m : Stored) (j : Judged A) (x : Judged B) (f : A → Outcome Flow) (g : B → Outcome Flow) → x ≡ mapped k j → ((a : A) → g (k a) ≡ moved (f a)) → lift m x g ≡ moved (lift m j f)
  moved_lift_mapped k m j x f g e h = ap (λ y. lift m y g) e ∙ go j
    where
      go : (j : Judged _) → lift m (mapped k j) g ≡ moved (lift m j f)
      go (ok a) = h a
      go (no why) = refl

  moved_spend : (m : Stored) (b : ℕ) (f g : ℕ → Outcome Flow) → ((n : ℕ) → g n ≡ moved (f n)) → spend m b g ≡ moved (spend m b f)
  moved_spend m zero f g h = refl
  moved_spend m (suc b) f g h = h b

  moved_choose : (k : ℕ) (x y x' y' : Outcome Flow) → x' ≡ moved x → y' ≡ moved y → choose k x' y' ≡ moved (choose k x y)
  moved_choose zero x y x' y' h i = i
  moved_choose (suc k) x y x' y' h i = h

  moved_cond : (t : Bool) (x y x' y' : Outcome Flow) → x' ≡ moved x → y' ≡ moved y → cond t x' y' ≡ moved (cond t x y)
  moved_cond true x y x' y' h i = h
  moved_cond false x y x' y' h i = i

  moved_bind : {A : Type 0} (x y : Outcome A) (f g : A → State → ℕ → Outcome Flow) → y ≡ x → ((a : A) (s : State) (n : ℕ) → g a s n ≡ moved (f a s n)) → bind y g ≡ moved (bind x f)
  moved_bind x y f g e h = ap (λ z. bind z g) e ∙ go x
    where
      go : (x : Outcome _) → bind x g ≡ moved (bind x f)
      go (done a s n) = h a s n
      go (stuck why m) = refl
      go (needs m) = refl
      go astray = refl

  moved_onward : (x y : Outcome Flow) (f g : Frame → State → ℕ → Outcome Flow) → y ≡ moved x → ((fr : Frame) (s : State) (n : ℕ) → g (with_names fr) s n ≡ moved (f fr s n)) → onward y g ≡ moved (onward x f)
  moved_onward x y f g e h = ap (λ z. onward z g) e ∙ go x
    where
      go : (x : Outcome Flow) → onward (moved x) g ≡ moved (onward x f)
      go (done (goes fr) s n) = h fr s n
      go (done (back us) s n) = refl
      go (stuck why m) = refl
      go (needs m) = refl
      go astray = refl

-- ---- reading and writing

module _ (r : List ℕ → List ℕ) (apart : (x y : List ℕ) → r x ≡ r y → x ≡ y) where
  same_test : (x y : List ℕ) → bytes_eq (r x) (r y) ≡ bytes_eq x y
  same_test x y =
      let d = bytes_eq-Decides (r x) (r y) in
      one_answer _ _ ((λ h. apart x y (d.0 h)), (λ e. d.1 (ap r e))) (bytes_eq-Decides x y)

  look_same : (x : List ℕ) (fr : Frame) → look (r x) (with_names r fr) ≡ option_map (with_name r) (look x fr)
  look_same x [] = refl
  look_same x (v ∷ vs) =
      ap (λ t. if t then Some (with_name r v) else look (r x) (with_names r vs)) (same_test x v.name) ∙ by_test (bytes_eq x v.name) (look_same x vs)
    where
      by_test : (t : Bool) → look (r x) (with_names r vs) ≡ option_map (with_name r) (look x vs)
          → (if t then Some (with_name r v) else look (r x) (with_names r vs)) ≡ option_map (with_name r) (if t then Some v else look x vs)
      by_test true h = refl
      by_test false h = h

  with_scalars_same : (x : List ℕ) (us : List Scalar) (fr : Frame) → with_scalars (r x) us (with_names r fr) ≡ with_names r (with_scalars x us fr)
  with_scalars_same x us [] = refl
  with_scalars_same x us (v ∷ vs) =
      ap (λ t. if t then record { name = r v.name; layout = v.layout; scalars = us } ∷ with_names r vs else with_name r v ∷ with_scalars (r x) us (with_names r vs)) (same_test x v.name) ∙ by_test (bytes_eq x v.name) (with_scalars_same x us vs)
    where
      by_test : (t : Bool) → with_scalars (r x) us (with_names r vs) ≡ with_names r (with_scalars x us vs)
          → (if t then record { name = r v.name; layout = v.layout; scalars = us } ∷ with_names r vs else with_name r v ∷ with_scalars (r x) us (with_names r vs))
          ≡ with_names r (if t then record { name = v.name; layout = v.layout; scalars = us } ∷ vs else v ∷ with_scalars x us vs)
      by_test true h = refl
      by_test false h = ap (λ w. with_name r v ∷ w) h

  module _ (ss : List CStruct) (m : Stored) (fr : Frame) where
    found_same : (p : CPath) (v : Option Variable)
        → on (found (option_map (with_name r) v)) (λ v. if p.arrow then read_arrow ss m p.members v else read_members p.members v)
        ≡ on (found v) (λ v. if p.arrow then read_arrow ss m p.members v else read_members p.members v)
    found_same p None = refl
    found_same p (Some v) = refl

    judge_same : (o : COpnd) → judge ss m (with_names r fr) (renamed_operand r o) ≡ judge ss m fr o
    judge_same (Number n) = refl
    judge_same (Path p) =
        ap (λ v. on (found v) (λ v. if p.arrow then read_arrow ss m p.members v else read_members p.members v)) (look_same p.base fr) ∙ found_same p (look p.base fr)

    judge_all_same : (os : List COpnd) → judge_all ss m (with_names r fr) (map (renamed_operand r) os) ≡ judge_all ss m fr os
    judge_all_same [] = refl
    judge_all_same (o ∷ os) = λ i. on (judge_same o i) (λ v. on (judge_all_same os i) (λ vs. ok (v ∷ vs)))

    word_same : (o : COpnd) → judged_word ss m (with_names r fr) (renamed_operand r o) ≡ judged_word ss m fr o
    word_same o = ap (λ j. on j word_in) (judge_same o)

    plain_same : (e : CRhs) → plain ss m (with_names r fr) (renamed_right r e) ≡ plain ss m fr e
    plain_same (Opnd o) = judge_same o
    plain_same (Conv w o) = ap (λ j. on j (λ n. ok (converted w n))) (word_same o)
    plain_same (Binary w v op x y) = λ i. on (word_same x i) (λ a. on (word_same y i) (λ b. computed w v op a b))
    plain_same (Flip w v o) = ap (λ j. on j (λ n. ok (flipped w v n))) (word_same o)
    plain_same (IsNull o) = ap (λ j. on j (λ v. on (address_in v) (λ p. ok (word_value U8 (flag (nat_eq p 0)))))) (judge_same o)
    plain_same (Call f os) = refl
    plain_same (New o x) = refl

    write_arrow_same : (xs : List (List ℕ)) (val : Value) (v : Variable)
        → write_arrow ss (with_names r fr) m xs val (with_name r v) ≡ mapped (written_names r) (write_arrow ss fr m xs val v)
    write_arrow_same xs val v =
        mapped_on (written_names r) (target_of v.layout) _ _ (λ x.
        mapped_on (written_names r) (address_at (only v.scalars)) _ _ (λ p.
        mapped_on (written_names r) (present m p) _ _ (λ c.
        mapped_on (written_names r) (found (walk xs (pointed ss x))) _ _ (λ s.
        mapped_on (written_names r) (written_cell s c) _ _ (λ slots.
        mapped_on (written_names r) (give s.layout val) _ _ (λ us. refl))))))

    write_members_same : (x : List ℕ) (xs : List (List ℕ)) (val : Value) (v : Variable)
        → write_members (with_names r fr) m (r x) xs val (with_name r v) ≡ mapped (written_names r) (write_members fr m x xs val v)
    write_members_same x xs val v =
        mapped_on (written_names r) (found (walk xs v.layout)) _ _ (λ s.
        mapped_on (written_names r) (give s.layout val) _ _ (λ us.
        ap (λ w. ok (record { frame = w; store = m })) (with_scalars_same x (spliced s us v.scalars) fr)))

    write_same : (p : CPath) (val : Value) → write ss (with_names r fr) m (renamed_path r p) val ≡ mapped (written_names r) (write ss fr m p val)
    write_same p val =
        ap (λ v. on (found v) (λ v. if p.arrow then write_arrow ss (with_names r fr) m p.members val v else write_members (with_names r fr) m (r p.base) p.members val v)) (look_same p.base fr)
        ∙ go (look p.base fr)
      where
        by_arrow : (t : Bool) (v : Variable)
            → (if t then write_arrow ss (with_names r fr) m p.members val (with_name r v) else write_members (with_names r fr) m (r p.base) p.members val (with_name r v))
            ≡ mapped (written_names r) (if t then write_arrow ss fr m p.members val v else write_members fr m p.base p.members val v)
        by_arrow true v = write_arrow_same p.members val v
        by_arrow false v = write_members_same p.base p.members val v

        go : (v : Option Variable)
            → on (found (option_map (with_name r) v)) (λ v. if p.arrow then write_arrow ss (with_names r fr) m p.members val v else write_members (with_names r fr) m (r p.base) p.members val v)
            ≡ mapped (written_names r) (on (found v) (λ v. if p.arrow then write_arrow ss fr m p.members val v else write_members fr m p.base p.members val v))
        go None = refl
        go (Some v) = by_arrow p.arrow v

-- ---- statements

-- a callee of the one program, in the other
abbrev callee_renamed : (List ℕ → List ℕ → List ℕ) → Callee → Callee
callee_renamed R (built k) = built k
callee_renamed R (abstract' f name) = abstract' (renamed_function R f) name
callee_renamed R own = own

abbrev with_functions : List CStruct → List Link → (List ℕ → List Scalar → Stored → Option Answer) → List Function → Linked
with_functions ss ls asked fs = record { program = record { structs = ss; functions = fs }; links = ls; asked = asked }

module _ (R : List ℕ → List ℕ → List ℕ) (apart : (f x y : List ℕ) → R f x ≡ R f y → x ≡ y)
    (ss : List CStruct) (ls : List Link) (asked : List ℕ → List Scalar → Stored → Option Answer) (fs gs : List Function)
    (finds : (x : List ℕ) → find x gs ≡ option_map (renamed_function R) (find x fs)) where
  abbrev first : Linked
  first = with_functions ss ls asked fs

  abbrev second : Linked
  second = with_functions ss ls asked gs

  without_body_same : (f : Function) (link : Option (List ℕ)) (b : Option Body)
      → without_body (renamed_function R f) link (option_map (renamed_body (R f.name)) b) ≡ callee_renamed R (without_body f link b)
  without_body_same f None None = refl
  without_body_same f (Some name) None = refl
  without_body_same f None (Some b) = refl
  without_body_same f (Some name) (Some b) = refl

  in_program_same : (x : List ℕ) (f : Option Function) → in_program second x (option_map (renamed_function R) f) ≡ callee_renamed R (in_program first x f)
  in_program_same x None = refl
  in_program_same x (Some f) = without_body_same f (linked_to x ls) f.body

  by_name_same : (x : List ℕ) (k : Option BuiltIn) → by_name second x k ≡ callee_renamed R (by_name first x k)
  by_name_same x None = ap (λ f. in_program second x f) (finds x) ∙ in_program_same x (find x fs)
  by_name_same x (Some k) = refl

  callee_same : (x : List ℕ) → callee second x ≡ callee_renamed R (callee first x)
  callee_same x = by_name_same x (built_in x)

  agree_same : (r : List ℕ → List ℕ) (ds : List CDecl) (vs : List Value) → agree ss (map (renamed_decl r) ds) vs ≡ agree ss ds vs
  agree_same r [] [] = refl
  agree_same r [] (v ∷ vs) = refl
  agree_same r (d ∷ ds) [] = refl
  agree_same r (d ∷ ds) (v ∷ vs) = ap (λ j. on (give (layout ss d.ty) v) (λ us. j)) (agree_same r ds vs)

  call_abstract_same : (f : Function) (name : List ℕ) (vs : List Value) (s : State) (b : ℕ) → call_abstract second (renamed_function R f) name vs s b ≡ call_abstract first f name vs s b
  call_abstract_same f name vs s b =
      ap (λ j. bind (answered j (layout ss f.ty) s b (asked name (flat_map scalars_of vs) s.store)) (λ us after rest. lift after.store (read (layout ss f.ty) us) (λ v. done v after rest)))
      (agree_same (R f.name) f.params vs)

  -- in a function of a name, where calls of functions of the program do the same
  module _ (inside : List ℕ) (c d : Calls) (n : ℕ) (l : Layout) (H : (f : List ℕ) (vs : List Value) (s : State) (b : ℕ) → d f vs s b ≡ c f vs s b) where
    assigned_same : (m : Stored) (fr : Frame) (t : CPath) (v : Value) (s : State) (b : ℕ)
        → assigned second m (with_names (R inside) fr) (renamed_path (R inside) t) v s b ≡ moved (R inside) (assigned first m fr t v s b)
    assigned_same m fr t v s b =
        moved_lift_mapped (R inside) (written_names (R inside)) m _ _ _ _ (write_same (R inside) (apart inside) ss s.store fr t v) (λ w. refl)

    assigned_given_same : (m : Stored) (fr : Frame) (t : CPath) (g : Given) (s : State) (b : ℕ)
        → assigned_given second m (with_names (R inside) fr) (renamed_path (R inside) t) g s b ≡ moved (R inside) (assigned_given first m fr t g s b)
    assigned_given_same m fr t None s b = refl
    assigned_given_same m fr t (Some v) s b = assigned_same m fr t v s b

    assigned_call_same : (k : Callee) (fr : Frame) (t : CPath) (f : List ℕ) (vs : List Value) (s : State) (b : ℕ)
        → assigned_call second d (callee_renamed R k) (with_names (R inside) fr) (renamed_path (R inside) t) f vs s b ≡ moved (R inside) (assigned_call first c k fr t f vs s b)
    assigned_call_same own fr t f vs s b = moved_bind (R inside) _ _ _ _ (H f vs s b) (λ v after j. assigned_same after.store fr t v after j)
    assigned_call_same (built k) fr t f vs s b =
        moved_bind (R inside) _ _ _ _ refl (λ g after j. assigned_given_same s.store fr t g after j)
    assigned_call_same (abstract' g name) fr t f vs s b =
        moved_bind (R inside) _ _ _ _ (call_abstract_same g name vs s b) (λ v after j. assigned_same after.store fr t v after j)

    dropped_call_same : (k : Callee) (fr : Frame) (f : List ℕ) (vs : List Value) (s : State) (b : ℕ)
        → dropped_call second d (callee_renamed R k) (with_names (R inside) fr) f vs s b ≡ moved (R inside) (dropped_call first c k fr f vs s b)
    dropped_call_same own fr f vs s b = moved_bind (R inside) _ _ _ _ (H f vs s b) (λ v after j. refl)
    dropped_call_same (built k) fr f vs s b =
        moved_bind (R inside) (called k false vs s b) (called k false vs s b) (λ g after j. done (goes fr) after j) (λ g after j. done (goes (with_names (R inside) fr)) after j) refl (λ g after j. refl)
    dropped_call_same (abstract' g name) fr f vs s b = moved_bind (R inside) _ _ _ _ (call_abstract_same g name vs s b) (λ v after j. refl)

    plain_assign_same : (t : CPath) (e : CRhs) (fr : Frame) (s : State) (b : ℕ)
        → lift s.store (plain ss s.store (with_names (R inside) fr) (renamed_right (R inside) e)) (λ v. assigned second s.store (with_names (R inside) fr) (renamed_path (R inside) t) v s b)
        ≡ moved (R inside) (lift s.store (plain ss s.store fr e) (λ v. assigned first s.store fr t v s b))
    plain_assign_same t e fr s b =
        moved_lift (R inside) s.store _ _ _ _ (plain_same (R inside) (apart inside) ss s.store fr e) (λ v. assigned_same s.store fr t v s b)

    assign_same : (t : CPath) (e : CRhs) (fr : Frame) (s : State) (b : ℕ)
        → run_assign second d (renamed_path (R inside) t) (renamed_right (R inside) e) (with_names (R inside) fr) s b ≡ moved (R inside) (run_assign first c t e fr s b)
    assign_same t (Opnd o) fr s b = plain_assign_same t (Opnd o) fr s b
    assign_same t (Conv w o) fr s b = plain_assign_same t (Conv w o) fr s b
    assign_same t (Binary w v o x y) fr s b = plain_assign_same t (Binary w v o x y) fr s b
    assign_same t (Flip w v o) fr s b = plain_assign_same t (Flip w v o) fr s b
    assign_same t (IsNull o) fr s b = plain_assign_same t (IsNull o) fr s b
    assign_same t (Call f os) fr s b =
        moved_lift (R inside) s.store _ _ _ _ (judge_all_same (R inside) (apart inside) ss s.store fr os) (λ vs.
        ap (λ k. assigned_call second d k (with_names (R inside) fr) (renamed_path (R inside) t) f vs s b) (callee_same f)
        ∙ assigned_call_same (callee first f) fr t f vs s b)
    assign_same t (New o x) fr s b =
        moved_lift (R inside) s.store _ _ _ _ (judge_same (R inside) (apart inside) ss s.store fr o) (λ v.
        moved_bind (R inside) _ _ _ _ refl (λ g after j. assigned_given_same s.store fr t g after j))

    turns_same : (o : COpnd) (x y : Frame → State → ℕ → Outcome Flow) → ((fr : Frame) (s : State) (b : ℕ) → y (with_names (R inside) fr) s b ≡ moved (R inside) (x fr s b)) → (i : ℕ) (fr : Frame) (s : State) (b : ℕ)
        → turns second i (renamed_operand (R inside) o) y (with_names (R inside) fr) s b ≡ moved (R inside) (turns first i o x fr s b)
    turns_same o x y h zero fr s b = refl
    turns_same o x y h (suc i) fr s b =
        moved_spend (R inside) s.store b _ _ (λ rest. moved_lift (R inside) s.store _ _ _ _ (word_same (R inside) (apart inside) ss s.store fr o) (λ k.
        moved_choose (R inside) k _ _ _ _ (moved_onward (R inside) _ _ _ _ (h fr s rest) (turns_same o x y h i)) refl))

    mutual
      unfolding run_stmt run_block run_cases renamed_stmt renamed_block renamed_cases

      stmt_same : (x : Stmt) (fr : Frame) (s : State) (b : ℕ)
          → run_stmt second d n l (renamed_stmt (R inside) x) (with_names (R inside) fr) s b ≡ moved (R inside) (run_stmt first c n l x fr s b)
      stmt_same (assign t e) fr s b = moved_spend (R inside) s.store b _ _ (λ rest. assign_same t e fr s rest)
      stmt_same (branch o x y) fr s b =
          moved_spend (R inside) s.store b _ _ (λ rest. moved_lift (R inside) s.store _ _ _ _ (word_same (R inside) (apart inside) ss s.store fr o) (λ k.
          moved_choose (R inside) k _ _ _ _ (block_same x fr s rest) (block_same y fr s rest)))
      stmt_same (while o x) fr s b = turns_same o (run_block first c n l x) (run_block second d n l (renamed_block (R inside) x)) (block_same x) n fr s b
      stmt_same (switch o cs) fr s b =
          moved_spend (R inside) s.store b _ _ (λ rest. moved_lift (R inside) s.store _ _ _ _ (word_same (R inside) (apart inside) ss s.store fr o) (λ k. cases_same k cs fr s rest))
      stmt_same (call f os) fr s b =
          moved_spend (R inside) s.store b _ _ (λ rest. moved_lift (R inside) s.store _ _ _ _ (judge_all_same (R inside) (apart inside) ss s.store fr os) (λ vs.
          ap (λ k. dropped_call second d k (with_names (R inside) fr) f vs s rest) (callee_same f) ∙ dropped_call_same (callee first f) fr f vs s rest))
      stmt_same (return' o) fr s b =
          moved_spend (R inside) s.store b _ _ (λ rest. moved_lift (R inside) s.store _ _ _ _ (ap (λ j. on j (give l)) (judge_same (R inside) (apart inside) ss s.store fr o)) (λ us. refl))

      block_same : (x : Block) (fr : Frame) (s : State) (b : ℕ)
          → run_block second d n l (renamed_block (R inside) x) (with_names (R inside) fr) s b ≡ moved (R inside) (run_block first c n l x fr s b)
      block_same stop fr s b = refl
      block_same (also x xs) fr s b = moved_onward (R inside) _ _ _ _ (stmt_same x fr s b) (block_same xs)

      cases_same : (k : ℕ) (cs : Cases) (fr : Frame) (s : State) (b : ℕ)
          → run_cases second d n l k (renamed_cases (R inside) cs) (with_names (R inside) fr) s b ≡ moved (R inside) (run_cases first c n l k cs fr s b)
      cases_same k end fr s b = refl
      cases_same k (case tag x cs) fr s b = moved_cond (R inside) (nat_eq k tag) _ _ _ _ (block_same x fr s b) (cases_same k cs fr s b)

  -- ---- functions

  unset_same : (r : List ℕ → List ℕ) (ds : List CDecl) → unset second (map (renamed_decl r) ds) ≡ with_names r (unset first ds)
  unset_same r [] = refl
  unset_same r (d ∷ ds) = ap (λ fr. with_name r (record { name = d.name; layout = layout ss d.ty; scalars = replicate (size (layout ss d.ty)) Unset }) ∷ fr) (unset_same r ds)

  enter_same : (r : List ℕ → List ℕ) (ds locals : List CDecl) (vs : List Value) → enter second (map (renamed_decl r) ds) (map (renamed_decl r) locals) vs ≡ mapped (with_names r) (enter first ds locals vs)
  enter_same r [] locals [] = ap ok (unset_same r locals)
  enter_same r [] locals (v ∷ vs) = refl
  enter_same r (d ∷ ds) locals [] = refl
  enter_same r (d ∷ ds) locals (v ∷ vs) =
      mapped_on (with_names r) _ _ _ (λ us. mapped_on_mapped (with_names r) (with_names r) _ _ _ _ (enter_same r ds locals vs) (λ fr. refl))

  returned_same : (r : List ℕ → List ℕ) (x : Outcome Flow) → returned second (moved r x) ≡ returned first x
  returned_same r (done (goes fr) s n) = refl
  returned_same r (done (back us) s n) = refl
  returned_same r (stuck why m) = refl
  returned_same r (needs m) = refl
  returned_same r astray = refl

  -- a body, in frames that are the same but for their names
  frame_same : (c d : Calls) → ((f : List ℕ) (vs : List Value) (s : State) (b : ℕ) → d f vs s b ≡ c f vs s b) → (n : ℕ) (f : Function) (g : Body) (fr fr' : Judged Frame) → fr' ≡ mapped (with_names (R f.name)) fr → (s : State) (b : ℕ)
      → run_frame second d n (renamed_function R f) (renamed_body (R f.name) g) fr' s b ≡ run_frame first c n f g fr s b
  frame_same c d h n f g fr fr' e s b = ap (λ x. run_frame second d n (renamed_function R f) (renamed_body (R f.name) g) x s b) e ∙ go fr
    where
      go : (fr : Judged Frame) → run_frame second d n (renamed_function R f) (renamed_body (R f.name) g) (mapped (with_names (R f.name)) fr) s b ≡ run_frame first c n f g fr s b
      go (ok fr) = ap (returned second) (block_same f.name c d n (layout ss f.ty) h g.block fr s b) ∙ returned_same (R f.name) _
      go (no why) = refl

  body_same : (c d : Calls) → ((f : List ℕ) (vs : List Value) (s : State) (b : ℕ) → d f vs s b ≡ c f vs s b) → (n : ℕ) (f : Function) (vs : List Value) (s : State) (b : ℕ) (g : Option Body)
      → run_body second d n (renamed_function R f) vs s b (option_map (renamed_body (R f.name)) g) ≡ run_body first c n f vs s b g
  body_same c d h n f vs s b None = refl
  body_same c d h n f vs s b (Some g) =
      ap (λ o. bind o (λ us after rest. done (typed (layout ss f.ty) us) after rest))
      (frame_same c d h n f g _ _ (enter_same (R f.name) f.params g.locals vs) s b)

  function_same : (c d : Calls) → ((f : List ℕ) (vs : List Value) (s : State) (b : ℕ) → d f vs s b ≡ c f vs s b) → (n : ℕ) (vs : List Value) (s : State) (b : ℕ) (f : Option Function)
      → run_function second d n vs s b (option_map (renamed_function R) f) ≡ run_function first c n vs s b f
  function_same c d h n vs s b None = refl
  function_same c d h n vs s b (Some f) = body_same c d h n f vs s b f.body

  calls_same : (n : ℕ) (f : List ℕ) (vs : List Value) (s : State) (b : ℕ) → calls_in second n f vs s b ≡ calls_in first n f vs s b
  unfolding calls_in
  calls_same zero f vs s b = refl
  calls_same (suc n) f vs s b =
      ap (λ g. run_function second (calls_in second n) n vs s b g) (finds f) ∙ function_same (calls_in first n) (calls_in second n) (calls_same n) n vs s b (find f fs)

  -- ---- runs

  filled_same : (r : List ℕ → List ℕ) (ds locals : List CDecl) (us : List Scalar) → filled second (map (renamed_decl r) ds) (map (renamed_decl r) locals) us ≡ mapped (with_names r) (filled first ds locals us)
  filled_same r [] locals [] = ap ok (unset_same r locals)
  filled_same r [] locals (u ∷ us) = refl
  filled_same r (d ∷ ds) locals us = by_test (nat_le (size (layout ss d.ty)) (length us)) (filled_same r ds locals (drop (size (layout ss d.ty)) us))
    where
      by_test : (t : Bool) → filled second (map (renamed_decl r) ds) (map (renamed_decl r) locals) (drop (size (layout ss d.ty)) us) ≡ mapped (with_names r) (filled first ds locals (drop (size (layout ss d.ty)) us))
          → (if t then on (filled second (map (renamed_decl r) ds) (map (renamed_decl r) locals) (drop (size (layout ss d.ty)) us)) (λ fr. ok (record { name = r d.name; layout = layout ss d.ty; scalars = take (size (layout ss d.ty)) us } ∷ fr)) else no KindsDiffer)
          ≡ mapped (with_names r) (if t then on (filled first ds locals (drop (size (layout ss d.ty)) us)) (λ fr. ok (record { name = d.name; layout = layout ss d.ty; scalars = take (size (layout ss d.ty)) us } ∷ fr)) else no KindsDiffer)
      by_test true h = mapped_on_mapped (with_names r) (with_names r) _ _ _ _ h (λ fr. refl)
      by_test false h = refl

  fill_same : (r : List ℕ → List ℕ) (ds : List CDecl) (us : List Scalar) → fill second (map (renamed_decl r) ds) us ≡ fill first ds us
  fill_same r ds us = ap (λ j. on j (λ fr. ok (tt {0}))) (filled_same r ds [] us) ∙ go (filled first ds [] us)
    where
      go : (j : Judged Frame) → on (mapped (with_names r) j) (λ fr. ok (tt {0})) ≡ on j (λ fr. ok (tt {0}))
      go (ok fr) = refl
      go (no why) = refl

  start_abstract_same : (f : Function) (us : List Scalar) (s : State) (b : ℕ) (link : Option (List ℕ)) → start_abstract second (renamed_function R f) us s b link ≡ start_abstract first f us s b link
  start_abstract_same f us s b None = refl
  start_abstract_same f us s b (Some name) = ap (λ j. answered j (layout ss f.ty) s b (asked name us s.store)) (fill_same (R f.name) f.params us)

  start_body_same : (n : ℕ) (f : Function) (us : List Scalar) (s : State) (b : ℕ) (g : Option Body)
      → start_body second n (renamed_function R f) us s b (option_map (renamed_body (R f.name)) g) ≡ start_body first n f us s b g
  start_body_same n f us s b None = start_abstract_same f us s b (linked_to f.name ls)
  start_body_same n f us s b (Some g) =
      frame_same (calls_in first n) (calls_in second n) (calls_same n) n f g _ _ (filled_same (R f.name) f.params g.locals us) s b

  start_same : (n : ℕ) (us : List Scalar) (s : State) (b : ℕ) (f : Option Function) → start second n us s b (option_map (renamed_function R) f) ≡ start first n us s b f
  start_same n us s b None = refl
  start_same n us s b (Some f) = start_body_same n f us s b f.body

  pub run_same : (n : ℕ) (x : List ℕ) (us : List Scalar) (m : Stored) → crun second n x us m ≡ crun first n x us m
  run_same n x us m = ap (λ f. start second n us (record { store = m; made = []; freed = [] }) n f) (finds x) ∙ start_same n us (record { store = m; made = []; freed = [] }) n (find x fs)

-- ---- the names of variables

find_renamed : (R : List ℕ → List ℕ → List ℕ) (x : List ℕ) (fs : List Function) → find x (map (renamed_function R) fs) ≡ option_map (renamed_function R) (find x fs)
find_renamed R x [] = refl
find_renamed R x (f ∷ fs) = by_test (bytes_eq x f.name) (find_renamed R x fs)
  where
    by_test : (t : Bool) → find x (map (renamed_function R) fs) ≡ option_map (renamed_function R) (find x fs)
        → (if t then Some (renamed_function R f) else find x (map (renamed_function R) fs)) ≡ option_map (renamed_function R) (if t then Some f else find x fs)
    by_test true h = refl
    by_test false h = h

pub names_do_not_matter : NamesDoNotMatter
names_do_not_matter r apart p n x us m =
    run_same r apart p.program.structs p.links p.asked p.program.functions (map (renamed_function r) p.program.functions)
    (λ y. find_renamed r y p.program.functions) n x us m

-- ---- the order of functions

-- the name that each variable has
abbrev kept : List ℕ → List ℕ → List ℕ
kept f x = x

operand_kept : (o : COpnd) → renamed_operand (λ x. x) o ≡ o
operand_kept (Number n) = refl
operand_kept (Path p) = refl

operands_kept : (os : List COpnd) → map (renamed_operand (λ x. x)) os ≡ os
operands_kept [] = refl
operands_kept (o ∷ os) = λ i. operand_kept o i ∷ operands_kept os i

right_kept : (e : CRhs) → renamed_right (λ x. x) e ≡ e
right_kept (Opnd o) = ap Opnd (operand_kept o)
right_kept (Conv w o) = ap (Conv w) (operand_kept o)
right_kept (Binary w v op x y) = λ i. Binary w v op (operand_kept x i) (operand_kept y i)
right_kept (Flip w v o) = ap (Flip w v) (operand_kept o)
right_kept (IsNull o) = ap IsNull (operand_kept o)
right_kept (Call f os) = ap (Call f) (operands_kept os)
right_kept (New o x) = ap (λ o. New o x) (operand_kept o)

mutual
  unfolding renamed_stmt renamed_block renamed_cases

  stmt_kept : (x : Stmt) → renamed_stmt (λ x. x) x ≡ x
  stmt_kept (assign t e) = ap (assign t) (right_kept e)
  stmt_kept (branch o x y) = λ i. branch (operand_kept o i) (block_kept x i) (block_kept y i)
  stmt_kept (while o x) = λ i. while (operand_kept o i) (block_kept x i)
  stmt_kept (switch o cs) = λ i. switch (operand_kept o i) (cases_kept cs i)
  stmt_kept (call f os) = ap (call f) (operands_kept os)
  stmt_kept (return' o) = ap return' (operand_kept o)

  block_kept : (x : Block) → renamed_block (λ x. x) x ≡ x
  block_kept stop = refl
  block_kept (also x xs) = λ i. also (stmt_kept x i) (block_kept xs i)

  cases_kept : (cs : Cases) → renamed_cases (λ x. x) cs ≡ cs
  cases_kept end = refl
  cases_kept (case tag x cs) = λ i. case tag (block_kept x i) (cases_kept cs i)

decls_kept : (ds : List CDecl) → map (renamed_decl (λ x. x)) ds ≡ ds
decls_kept [] = refl
decls_kept (d ∷ ds) = ap (λ ds. d ∷ ds) (decls_kept ds)

body_kept : (b : Option Body) → option_map (renamed_body (λ x. x)) b ≡ b
body_kept None = refl
body_kept (Some b) = λ i. Some (record { locals = decls_kept b.locals i; block = block_kept b.block i })

function_kept : (f : Function) → renamed_function kept f ≡ f
function_kept f = λ i. record { ty = f.ty; name = f.name; params = decls_kept f.params i; body = body_kept f.body i }

option_kept : (f : Option Function) → f ≡ option_map (renamed_function kept) f
option_kept None = refl
option_kept (Some f) = ap Some (sym (function_kept f))

pub order_does_not_matter : OrderDoesNotMatter
order_does_not_matter p q structs links asked finds n x us m =
    sym (run_same kept (λ f x y e. e) p.program.structs p.links p.asked p.program.functions q.program.functions
    (λ y. sym (finds y) ∙ option_kept (find y p.program.functions)) n x us m)
    ∙ (λ i. crun (with_functions (structs i) (links i) (asked i) q.program.functions) n x us m)
