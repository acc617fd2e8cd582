-- What the library's functions find and do: the scalars of their arguments, what is read of operands, and what the built-ins give.
use Rattle.std.proofs.Common.{◌≡◌, ℕ, zero, suc, ◌+◌, ◌-◌, ◌^◌, ◌<◌, ◌&&◌, Bool, true, false, nat_le, nat_lt, Option, Some, None, List, [], ◌∷◌, ◌++◌, length, take, drop, get_or, slice_get, refl, sym, ap, ◌∙◌, subst, arith, codes, inl, inr}
use Rattle.std.proofs.lemmas.Bool.{and_parts, cases_Bool, eqb-true, le-ltb, lt-ltb, ltb-true, ltb-false}
use Rattle.std.proofs.lemmas.List.{get_or_past}
use Rattle.std.specs.List.{list_all}
use Rattle.cg_base.specs.declared.kind.Sigil.TheVariants.{U}
use Rattle.cg_base.specs.declared.kind.Word.{Word}
use Rattle.cg_base.specs.declared.kind.Word.TheVariants.{U8, U16, U32, U64}
use Rattle.cg_base.specs.Types.{Tau, word, fields, Parts, end, part}
use Rattle.cg_base.specs.Words.{bits}
use Rattle.cg_cmachine_def.specs.BuiltIns.{free, create, free_array, length_of, get, put, called, array_of, array_call, is_there, pointer_of, number_of as number_from, element_at, with_element_at, make_struct, granted, next_answer}
use Rattle.cg_cmachine_def.specs.Layouts.{Layout, cell, pointer}
use Rattle.cg_cmachine_def.specs.Operands.{Value, typed, Frame, judge, judge_all, read, part_of}
use Rattle.cg_cmachine_def.specs.Operations.{word_value}
use Rattle.cg_cmachine_def.specs.Outcomes.{ok, on, State, done}
use Rattle.cg_cmachine_def.specs.Runs.{Linked, callee, built}
use Rattle.cg_ctree.specs.declared.tree.COpnd.{COpnd}
use Rattle.cg_ctree.specs.declared.tree.CStruct.{CStruct}
use Rattle.cg_heap.specs.declared.cell.Cell.{Cell}
use Rattle.cg_heap.specs.declared.cell.Cell.TheVariants.{Slots, Words, Answers}
use Rattle.cg_heap.specs.declared.cell.Fresh.{Fresh}
use Rattle.cg_heap.specs.declared.cell.Fresh.TheVariants as fresh
use Rattle.cg_heap.specs.declared.cell.Scalar.{Scalar}
use Rattle.cg_heap.specs.declared.cell.Scalar.TheVariants.{Word as NumberScalar, Address}
use Rattle.cg_heap.specs.Reps.{slots}
use Rattle.cg_heap.specs.Stored.{Stored, cell_at, changed, with_element, with_fresh, without_answer, without_cell}
use Rattle.cg_kinds.specs.Kinds.{is_word}
use Rattle.cg_lib_heap.specs.Library.{words_in}
use Rattle.cg_typing.specs.Library.{pair, triple}
use Rattle.cg_update.specs.Calls.{are_answers, are_slots, are_words}
use Rattle.cg_update.specs.Machines.{is_machine, part_at, type_of_part}
use Rattle.cg_value.specs.Fits.{most_elements}
use Rattle.cg_lower_def.specs.CTypes.{IsDeclared}
use Rattle.cg_cgen_def.specs.Places.{whole_argument, field_of_argument, Step, Base, argument, argument_name, held, operand}
use Rattle.cg_lower_laws.proofs.Frames.{Is, Keeps, is_kept}
use Rattle.cg_lower_laws.proofs.Layouts.{lay}
use Rattle.cg_lower_laws.proofs.Operands.{IsReadable, readable, given_typed, keeps_field}
use Rattle.cg_heap.proofs.TopSteps.{top_stays as same_top}
use Rattle.cg_base.proofs.Counts.{above_none}

-- ---- arguments

-- the first of a record's fields, which has one scalar, and the others
pub record FirstScalar (types : ℕ → Option Tau) (t : Tau) (ps : Parts) (us : List Scalar) : Type 0 where
  pub scalar : Scalar
  pub others : List Scalar
  pub are : us ≡ scalar ∷ others
  pub machine : is_machine types t (scalar ∷ []) ≡ true
  pub later : is_machine types (fields ps U) others ≡ true

pub first_scalar : (types : ℕ → Option Tau) (name : List ℕ) (t : Tau) (ps : Parts) (us : List Scalar) → slots t ≡ 1
    → is_machine types (fields (part name t false ps) U) us ≡ true → FirstScalar types t ps us
unfolding is_machine
first_scalar types name t ps [] one e =
    let short : nat_le 1 0 ≡ true = subst (λ n. nat_le n 0 ≡ true) one (and_parts (nat_le (slots t) 0) _ e).0 in absurd (cc)
first_scalar types name t ps (u ∷ us) one e =
    let both = and_parts _ _ (and_parts (nat_le (slots t) (length (u ∷ us))) _ e).1 in
    record {
      scalar = u;
      others = us;
      are = refl;
      machine = subst (λ n. is_machine types t (take n (u ∷ us)) ≡ true) one both.0;
      later = subst (λ n. is_machine types (fields ps U) (drop n (u ∷ us)) ≡ true) one both.1;
    }

-- behind the last field nothing stands
no_scalar : (types : ℕ → Option Tau) (us : List Scalar) → is_machine types (fields end U) us ≡ true → us ≡ []
unfolding is_machine
no_scalar types [] e = refl
no_scalar types (u ∷ us) e = let none = eqb-true (length (u ∷ us)) 0 e in absurd (omega (arith, none))

-- two fields of one scalar each
pub record TwoScalars (types : ℕ → Option Tau) (a b : Tau) (us : List Scalar) : Type 0 where
  pub first : Scalar
  pub second : Scalar
  pub are : us ≡ first ∷ second ∷ []
  pub is_first : is_machine types a (first ∷ []) ≡ true
  pub is_second : is_machine types b (second ∷ []) ≡ true

pub two_scalars : (types : ℕ → Option Tau) (a b : Tau) (us : List Scalar) → slots a ≡ 1 → slots b ≡ 1 → is_machine types (pair a b) us ≡ true
    → TwoScalars types a b us
two_scalars types a b us one two e =
    let x = first_scalar types (codes "p1") a (part (codes "p2") b false end) us one e in
    let y = first_scalar types (codes "p2") b end x.others two x.later in
    record {
      first = x.scalar;
      second = y.scalar;
      are = x.are ∙ ap (λ z. x.scalar ∷ z) (y.are ∙ ap (λ z. y.scalar ∷ z) (no_scalar types y.others y.later));
      is_first = x.machine;
      is_second = y.machine;
    }

-- and three
pub record ThreeScalars (types : ℕ → Option Tau) (a b c : Tau) (us : List Scalar) : Type 0 where
  pub first : Scalar
  pub second : Scalar
  pub third : Scalar
  pub are : us ≡ first ∷ second ∷ third ∷ []
  pub is_first : is_machine types a (first ∷ []) ≡ true
  pub is_second : is_machine types b (second ∷ []) ≡ true
  pub is_third : is_machine types c (third ∷ []) ≡ true

pub three_scalars : (types : ℕ → Option Tau) (a b c : Tau) (us : List Scalar) → slots a ≡ 1 → slots b ≡ 1 → slots c ≡ 1 → is_machine types (triple a b c) us ≡ true
    → ThreeScalars types a b c us
unfolding is_machine
three_scalars types a b c us one two three e =
    let x = first_scalar types (codes "p1") a (part (codes "p2") b false (part (codes "p3") c false end)) us one e in
    let y = two_scalars types b c x.others two three x.later in
    record {
      first = x.scalar;
      second = y.first;
      third = y.second;
      are = x.are ∙ ap (λ z. x.scalar ∷ z) y.are;
      is_first = x.machine;
      is_second = y.is_first;
      is_third = y.is_second;
    }

module _ (numbered : Tau → ℕ) (ss : List CStruct) (fr : Frame) where
  -- where these fields of the argument are kept
  pub first_of_two : (a b : Tau) (u v : Scalar) → slots a ≡ 1 → IsDeclared numbered ss (pair a b) → Is fr argument_name (lay numbered ss (pair a b)) (u ∷ v ∷ [])
      → Keeps fr (field_of_argument 0) (lay numbered ss a) (u ∷ [])
  unfolding part_at type_of_part
  first_of_two a b u v one d is =
      keeps_field numbered ss fr whole_argument (part (codes "p1") a false (part (codes "p2") b false end)) 0 (u ∷ v ∷ []) (u ∷ []) d
      (is_kept fr argument (lay numbered ss (pair a b)) (u ∷ v ∷ []) is) (rw one refl)

  pub second_of_two : (a b : Tau) (u v : Scalar) → slots a ≡ 1 → slots b ≡ 1 → IsDeclared numbered ss (pair a b) → Is fr argument_name (lay numbered ss (pair a b)) (u ∷ v ∷ [])
      → Keeps fr (field_of_argument 1) (lay numbered ss b) (v ∷ [])
  unfolding part_at type_of_part
  second_of_two a b u v one two d is =
      keeps_field numbered ss fr whole_argument (part (codes "p1") a false (part (codes "p2") b false end)) 1 (u ∷ v ∷ []) (v ∷ []) d
      (is_kept fr argument (lay numbered ss (pair a b)) (u ∷ v ∷ []) is) (rw (one, two) refl)

  pub first_of_three : (a b c : Tau) (u v w : Scalar) → slots a ≡ 1 → IsDeclared numbered ss (triple a b c)
      → Is fr argument_name (lay numbered ss (triple a b c)) (u ∷ v ∷ w ∷ []) → Keeps fr (field_of_argument 0) (lay numbered ss a) (u ∷ [])
  unfolding part_at type_of_part
  first_of_three a b c u v w one d is =
      keeps_field numbered ss fr whole_argument (part (codes "p1") a false (part (codes "p2") b false (part (codes "p3") c false end))) 0 (u ∷ v ∷ w ∷ []) (u ∷ []) d
      (is_kept fr argument (lay numbered ss (triple a b c)) (u ∷ v ∷ w ∷ []) is) (rw one refl)

  pub second_of_three : (a b c : Tau) (u v w : Scalar) → slots a ≡ 1 → slots b ≡ 1 → IsDeclared numbered ss (triple a b c)
      → Is fr argument_name (lay numbered ss (triple a b c)) (u ∷ v ∷ w ∷ []) → Keeps fr (field_of_argument 1) (lay numbered ss b) (v ∷ [])
  unfolding part_at type_of_part
  second_of_three a b c u v w one two d is =
      keeps_field numbered ss fr whole_argument (part (codes "p1") a false (part (codes "p2") b false (part (codes "p3") c false end))) 1 (u ∷ v ∷ w ∷ []) (v ∷ []) d
      (is_kept fr argument (lay numbered ss (triple a b c)) (u ∷ v ∷ w ∷ []) is) (rw (one, two) refl)

  pub third_of_three : (a b c : Tau) (u v w : Scalar) → slots a ≡ 1 → slots b ≡ 1 → slots c ≡ 1 → IsDeclared numbered ss (triple a b c)
      → Is fr argument_name (lay numbered ss (triple a b c)) (u ∷ v ∷ w ∷ []) → Keeps fr (field_of_argument 2) (lay numbered ss c) (w ∷ [])
  unfolding part_at type_of_part
  third_of_three a b c u v w one two three d is =
      keeps_field numbered ss fr whole_argument (part (codes "p1") a false (part (codes "p2") b false (part (codes "p3") c false end))) 2 (u ∷ v ∷ w ∷ []) (w ∷ []) d
      (is_kept fr argument (lay numbered ss (triple a b c)) (u ∷ v ∷ w ∷ []) is) (rw (one, two, three) refl)

-- a type that is a word
pub word_type : (t : Tau) → is_word t ≡ true → (w : Word) × (t ≡ word w)
word_type (word w) e = (w, refl)
word_type t e = absurd (cc)

-- ---- cells

-- a list of answers, slots, and an array
pub answers_are : (c : Option Cell) → are_answers c ≡ true → (bs : List Bool) × (c ≡ Some (Answers bs))
answers_are None e = absurd (cc)
answers_are (Some (Slots us)) e = absurd (cc)
answers_are (Some (Words ns)) e = absurd (cc)
answers_are (Some (Answers bs)) e = (bs, refl)

pub slots_are : (c : Option Cell) → are_slots c ≡ true → (us : List Scalar) × (c ≡ Some (Slots us))
slots_are None e = absurd (cc)
slots_are (Some (Slots us)) e = (us, refl)
slots_are (Some (Words ns)) e = absurd (cc)
slots_are (Some (Answers bs)) e = absurd (cc)

pub words_are : (w : Word) (c : Option Cell) → are_words (word w) c ≡ true
    → (c ≡ Some (Words (words_in c))) × (length (words_in c) < 2 ^ 32) × (list_all (λ n. nat_lt n (2 ^ bits w)) (words_in c) ≡ true)
words_are w None e = absurd (cc)
words_are w (Some (Slots us)) e = absurd (cc)
words_are w (Some (Words ns)) e = let both = and_parts (nat_lt (length ns) (2 ^ 32)) _ e in (refl, ltb-true (length ns) (2 ^ 32) both.0, both.1)
words_are w (Some (Answers bs)) e = absurd (cc)

-- ---- operands

-- what is read of a part of a variable
pub held_read : (ss : List CStruct) (m : Stored) (fr : Frame) (b : Base) (steps : List Step) (l : Layout) (us : List Scalar)
    → Keeps fr (held b steps) l us → IsReadable l us → judge ss m fr (operand (held b steps)) ≡ ok (typed l us)
held_read ss m fr b steps l us k r =
    rw (k.found, k.leads) (ap (λ z. read z (part_of k.spot k.variable.scalars)) k.laid ∙ ap (read l) k.part ∙ readable l us r)

-- one operand, two and three
pub one_judged : (ss : List CStruct) (m : Stored) (fr : Frame) (o : COpnd) (v : Value) → judge ss m fr o ≡ ok v → judge_all ss m fr (o ∷ []) ≡ ok (v ∷ [])
one_judged ss m fr o v e = rw e refl

pub two_judged : (ss : List CStruct) (m : Stored) (fr : Frame) (o x : COpnd) (v u : Value) → judge ss m fr o ≡ ok v → judge ss m fr x ≡ ok u
    → judge_all ss m fr (o ∷ x ∷ []) ≡ ok (v ∷ u ∷ [])
two_judged ss m fr o x v u e e' = rw (e, e') refl

pub three_judged : (ss : List CStruct) (m : Stored) (fr : Frame) (o x y : COpnd) (v u w : Value) → judge ss m fr o ≡ ok v → judge ss m fr x ≡ ok u → judge ss m fr y ≡ ok w
    → judge_all ss m fr (o ∷ x ∷ y ∷ []) ≡ ok (v ∷ u ∷ w ∷ [])
three_judged ss m fr o x y v u w e e' e'' = rw (e, e', e'') refl

-- an address as a value of a pointer type
abbrev pub address_value : List ℕ → ℕ → Value
address_value x p = typed (pointer x) (Address p ∷ [])

-- the cell that an address points to is there
there : (m : Stored) (x : List ℕ) (p : ℕ) (c : Cell) → cell_at m p ≡ Some c → is_there m (address_value x p) ≡ ok tt
there m x p c e = rw e refl

-- an address, and a number, where their types are needed
pointed_to : (x : List ℕ) (p : ℕ) → pointer_of (pointer x) (address_value x p) ≡ ok p
pointed_to x p = ap (λ r. on r (λ us. ok p)) (given_typed (pointer x) (Address p ∷ []))

number_is : (w : Word) (n : ℕ) → n < 2 ^ bits w → number_from w (word_value w n) ≡ ok n
number_is w n h = rw (given_typed (cell w) (NumberScalar n ∷ []), lt-ltb n (2 ^ bits w) h) refl

-- ---- built-ins by their names

pub length_callee : (q : Linked) (w : Word) → callee q (array_call w (codes "length")) ≡ built (length_of w)
length_callee q U8 = refl
length_callee q U16 = refl
length_callee q U32 = refl
length_callee q U64 = refl

pub get_callee : (q : Linked) (w : Word) → callee q (array_call w (codes "get")) ≡ built (get w)
get_callee q U8 = refl
get_callee q U16 = refl
get_callee q U32 = refl
get_callee q U64 = refl

pub put_callee : (q : Linked) (w : Word) → callee q (array_call w (codes "put")) ≡ built (put w)
put_callee q U8 = refl
put_callee q U16 = refl
put_callee q U32 = refl
put_callee q U64 = refl

pub create_callee : (q : Linked) (w : Word) → callee q (array_call w (codes "create")) ≡ built (create w)
create_callee q U8 = refl
create_callee q U16 = refl
create_callee q U32 = refl
create_callee q U64 = refl

pub free_array_callee : (q : Linked) (w : Word) → callee q (array_call w (codes "free")) ≡ built (free_array w)
free_array_callee q U8 = refl
free_array_callee q U16 = refl
free_array_callee q U32 = refl
free_array_callee q U64 = refl

pub free_callee : (q : Linked) → callee q (codes "cg_free") ≡ built free
free_callee q = refl

-- ---- what they give

-- the state with other cells, and the address of one of them freed
abbrev pub after_free : ℕ → State → State
after_free p s = record { store = without_cell p s.store; made = s.made; freed = s.freed ++ p ∷ [] }

-- a cell and an array that are freed
pub free_called : (x : List ℕ) (q p : ℕ) (c d : Cell) (s : State) (left : ℕ) → cell_at s.store q ≡ Some c → cell_at s.store p ≡ Some d
    → called free false (address_value (codes "SysState") q ∷ address_value x p ∷ []) s left ≡ done None (after_free p s) left
free_called x q p c d s left hc hd = rw (there s.store (codes "SysState") q c hc, there s.store x p d hd) refl

pub free_array_called : (w : Word) (q p : ℕ) (c d : Cell) (s : State) (left : ℕ) → cell_at s.store q ≡ Some c → cell_at s.store p ≡ Some d
    → called (free_array w) false (address_value (codes "SysState") q ∷ typed (array_of w) (Address p ∷ []) ∷ []) s left ≡ done None (after_free p s) left
free_array_called w q p c d s left hc hd =
    rw (there s.store (codes "SysState") q c hc, there s.store _ p d hd, pointed_to _ p) refl

-- how long an array is
pub length_called : (w : Word) (p : ℕ) (ns : List ℕ) (s : State) (left : ℕ) → cell_at s.store p ≡ Some (Words ns)
    → called (length_of w) true (typed (array_of w) (Address p ∷ []) ∷ []) s left ≡ done (Some (word_value U32 (length ns))) s left
length_called w p ns s left h = rw (there s.store _ p _ h, pointed_to _ p, h) refl

-- an element that is there is in range
element_small : (w : Word) (ns : List ℕ) (i : ℕ) → list_all (λ n. nat_lt n (2 ^ bits w)) ns ≡ true → i < length ns → get_or ns i 0 < 2 ^ bits w
element_small w [] i h lt = absurd (omega (arith, lt))
element_small w (n ∷ ns) zero h lt = ltb-true n (2 ^ bits w) (and_parts _ _ h).0
element_small w (n ∷ ns) (suc i) h lt = element_small w ns i (and_parts (nat_lt n (2 ^ bits w)) _ h).1 (omega (arith, lt))

-- and is found
element_found : (ns : List ℕ) (i : ℕ) → i < length ns → slice_get ns i ≡ Some (get_or ns i 0)
element_found [] i lt = absurd (omega (arith, lt))
element_found (n ∷ ns) zero lt = refl
element_found (n ∷ ns) (suc i) lt = element_found ns i (omega (arith, lt))

-- what is read of an array, or 0 behind its end
pub element_read : (w : Word) (p i : ℕ) (ns : List ℕ) (m : Stored) → cell_at m p ≡ Some (Words ns) → list_all (λ n. nat_lt n (2 ^ bits w)) ns ≡ true
    → element_at w p i m ≡ ok (word_value w (get_or ns i 0))
element_read w p i ns m h all = rw h (elim (cases_Bool (nat_lt i (length ns))) [
  | inl e ↦ let lt = ltb-true i (length ns) e in rw (e, element_found ns i lt) (rw (lt-ltb (get_or ns i 0) (2 ^ bits w) (element_small w ns i all lt)) refl)
  | inr e ↦ let past = ltb-false i (length ns) e in rw e (ap (λ n. ok (word_value w n)) (sym (get_or_past ns i 0 (omega (arith, past)))))
])

-- and it is in range
pub element_below : (w : Word) (i : ℕ) (ns : List ℕ) → list_all (λ n. nat_lt n (2 ^ bits w)) ns ≡ true → get_or ns i 0 < 2 ^ bits w
element_below w i ns all = elim (cases_Bool (nat_lt i (length ns))) [
  | inl e ↦ element_small w ns i all (ltb-true i (length ns) e)
  | inr e ↦ let past = ltb-false i (length ns) e in subst (λ n. n < 2 ^ bits w) (sym (get_or_past ns i 0 (omega (arith, past)))) (above_none w)
]

-- an element that is read
pub get_called : (w : Word) (p i : ℕ) (ns : List ℕ) (s : State) (left : ℕ) → cell_at s.store p ≡ Some (Words ns)
    → list_all (λ n. nat_lt n (2 ^ bits w)) ns ≡ true → i < 2 ^ 32
    → called (get w) true (typed (array_of w) (Address p ∷ []) ∷ word_value U32 i ∷ []) s left ≡ done (Some (word_value w (get_or ns i 0))) s left
get_called w p i ns s left h all small =
    rw (there s.store _ p _ h, pointed_to _ p, lt-ltb i (2 ^ 32) small, element_read w p i ns s.store h all) refl

-- the store behind an element that is written, where it is there
element_written : (p i n : ℕ) (ns : List ℕ) (m : Stored) → cell_at m p ≡ Some (Words ns) → with_element_at p i n m ≡ ok (changed (with_element i n) p m)
element_written p i n ns m h = rw h (elim (cases_Bool (nat_lt i (length ns))) [ inl e ↦ rw e refl | inr e ↦ rw e refl ])

-- an element that is written
pub put_called : (w : Word) (p i n : ℕ) (ns : List ℕ) (s : State) (left : ℕ) → cell_at s.store p ≡ Some (Words ns) → i < 2 ^ 32 → n < 2 ^ bits w
    → called (put w) false (typed (array_of w) (Address p ∷ []) ∷ word_value U32 i ∷ word_value w n ∷ []) s left
    ≡ done None (record { store = changed (with_element i n) p s.store; made = s.made; freed = s.freed }) left
put_called w p i n ns s left h small below =
    rw (there s.store _ p _ h, pointed_to _ p, lt-ltb i (2 ^ 32) small, number_is w n below, element_written p i n ns s.store h) refl

-- ---- cells that are made

-- the address of a cell that is made
abbrev pub new_address : ℕ → State → ℕ
new_address q s = (changed without_answer q s.store).top + 1

-- the state behind it, and behind one that isn't made
abbrev pub after_made : ℕ → Fresh → State → State
after_made q f s = record { store = with_fresh f (changed without_answer q s.store); made = s.made ++ new_address q s ∷ []; freed = s.freed }

abbrev pub after_none : ℕ → State → State
after_none q s = record { store = changed without_answer q s.store; made = s.made; freed = s.freed }

-- a cell that is made, where the steps for it are there
made_is : (l : Layout) (q cost : ℕ) (f : Fresh) (s : State) (left : ℕ)
    → granted l q true f cost s (cost + left) ≡ done (Some (typed l (Address (new_address q s) ∷ []))) (after_made q f s) left
made_is l q cost f s left =
    let enough : nat_lt (cost + left) cost ≡ false = le-ltb (cost + left) cost (omega arith) in
    let rest : cost + left - cost ≡ left = omega arith in
    rw (enough, rest) (ap (λ n. done (Some (typed l (Address (n + 1) ∷ []))) (record { store = with_fresh f (changed without_answer q s.store); made = s.made ++ (n + 1) ∷ []; freed = s.freed }) left)
    (sym (same_top without_answer q s.store)))

-- a record that is made, and one that isn't
pub struct_made : (x : List ℕ) (n q : ℕ) (c : Cell) (s : State) (left : ℕ) → cell_at s.store q ≡ Some c → next_answer q s.store ≡ true
    → make_struct x n (address_value (codes "SysState") q) s left ≡ done (Some (address_value x (new_address q s))) (after_made q (fresh.Slots n) s) left
struct_made x n q c s left h allowed =
    let same : 0 + left ≡ left = omega arith in
    rw (there s.store (codes "SysState") q c h, allowed) (subst (λ k. granted (pointer x) q true (fresh.Slots n) 0 s k ≡ done (Some (address_value x (new_address q s))) (after_made q (fresh.Slots n) s) left) same
    (made_is (pointer x) q 0 (fresh.Slots n) s left))

pub struct_none : (x : List ℕ) (n q : ℕ) (c : Cell) (s : State) (left : ℕ) → cell_at s.store q ≡ Some c → next_answer q s.store ≡ false
    → make_struct x n (address_value (codes "SysState") q) s left ≡ done (Some (address_value x 0)) (after_none q s) left
struct_none x n q c s left h refused = rw (there s.store (codes "SysState") q c h, refused) refl

-- the same of an array, which takes as many steps as it has elements
pub array_made : (w : Word) (q n : ℕ) (c : Cell) (s : State) (left : ℕ) → cell_at s.store q ≡ Some c → n < 2 ^ 32
    → (next_answer q s.store && nat_le n most_elements) ≡ true
    → called (create w) true (address_value (codes "SysState") q ∷ word_value U32 n ∷ []) s (n + left)
    ≡ done (Some (typed (array_of w) (Address (new_address q s) ∷ []))) (after_made q (fresh.Words n) s) left
array_made w q n c s left h small allowed =
    rw (there s.store (codes "SysState") q c h, lt-ltb n (2 ^ 32) small, allowed) (made_is (array_of w) q n (fresh.Words n) s left)

pub array_none : (w : Word) (q n : ℕ) (c : Cell) (s : State) (left : ℕ) → cell_at s.store q ≡ Some c → n < 2 ^ 32
    → (next_answer q s.store && nat_le n most_elements) ≡ false
    → called (create w) true (address_value (codes "SysState") q ∷ word_value U32 n ∷ []) s left
    ≡ done (Some (typed (array_of w) (Address 0 ∷ []))) (after_none q s) left
array_none w q n c s left h small refused = rw (there s.store (codes "SysState") q c h, lt-ltb n (2 ^ 32) small, refused) refl
