-- What both kinds of loops are made of: numbers that are compared and added, parts of machine values, and the call of a turn.
use Rattle.std.proofs.Common.{◌≡◌, ℕ, zero, suc, ◌+◌, ◌-◌, ◌%◌, ◌^◌, ◌<◌, ◌≤◌, Bool, true, false, ◌&&◌, ◌||◌, not, Option, Some, None, List, [], ◌∷◌, ◌++◌, length, length-append, drop, take, map, nat_eq, nat_le, nat_lt, slice_get, append_assoc, refl, ap, ◌∙◌, subst, arith}
use Rattle.std.proofs.lemmas.Bool.{and_parts, le-leb}
use Rattle.std.proofs.Math.Seq.{drop-append_seam, take-append_seam}
use Rattle.std.proofs.Math.Nat.{add-mul-mod_self_right, mod-eq_of_lt}
use Rattle.cg_base.specs.declared.kind.Word.{Word}
use Rattle.cg_base.specs.declared.kind.Word.TheVariants.{U8, U32}
use Rattle.cg_base.specs.Types.{Tau, Parts, end, part}
use Rattle.cg_base.specs.Words.{bits}
use Rattle.cg_cgen_def.specs.Code.{inner}
use Rattle.cg_cgen.proofs.Numbers.{cast, difference, flag_is_small, kept, small}
use Rattle.cg_cmachine_def.specs.Layouts.{Layout, cell, size, spot, walk}
use Rattle.cg_cmachine_def.specs.Operands.{Frame, typed}
use Rattle.cg_cmachine_def.specs.Operations.{computed, flag, word_value}
use Rattle.cg_cmachine_def.specs.Outcomes.{ok}
use Rattle.cg_cmachine_def.specs.Runs.{Linked}
use Rattle.cg_cmachine_def.specs.Targets.{spliced, with_scalars, write}
use Rattle.cg_ctree.specs.declared.tree.COp.TheVariants as cop
use Rattle.cg_heap.specs.declared.cell.Scalar.{Scalar}
use Rattle.cg_heap.specs.Reps.{slots}
use Rattle.cg_inst.proofs.SameType.{same_is}
use Rattle.cg_update.specs.Machines.{are_machine, is_machine, is_type, part_at, type_of_part}
use Rattle.cg_update.specs.Outcomes.{State}
use Rattle.cg_lower_def.specs.CTypes.{c_type, count}
use Rattle.cg_cgen_def.specs.Places.{whole_local, field_of_argument, Step, argument, field, local, local_name, number, operand, path, step_name}
use Rattle.cg_cgen_def.specs.Loops.{turning}
use Rattle.cg_lower_def.specs.Simulated.{as_run}
use Rattle.cg_lower_laws.proofs.Frames.{Keeps}
use Rattle.cg_lower_laws.proofs.Iterating.{Price, TurnCalled}
use Rattle.cg_lower_laws.proofs.Layouts.{machine_slots}
use Rattle.cg_lower_laws.proofs.LibraryParts.{held_read, two_judged}
use Rattle.cg_lower_laws.proofs.Operands.{IsReadable, given_typed, write_part}
use Rattle.cg_lower_laws.proofs.Records.{spliced_next}
use Rattle.cg_lower_laws.proofs.Runs.{runs_call}
use Rattle.cg_lower_laws.proofs.Standing.{KeepsNumber, Local, Reaches, Scene, replaced, scene_set, scene_whole, stand_at}
use Rattle.cg_lower_laws.proofs.Terms.{lay_c}

-- ---- numbers

-- whether one is less than another, whether one isn't 0, and whether both hold
pub less_is : (w : Word) (x y : ℕ) → x < 2 ^ bits w → y < 2 ^ bits w → computed U8 (inner w) cop.Lt x y ≡ ok (word_value U8 (flag (nat_lt x y)))
less_is w x y h k =
    let one = flag_is_small (nat_lt x y) in
    rw (cast w x h, cast w y k) (ap (λ n. ok (word_value U8 n)) (small w (flag (nat_lt x y)) (omega (arith, one))))

pub differs_is : (w : Word) (x y : ℕ) → x < 2 ^ bits w → y < 2 ^ bits w → computed U8 (inner w) cop.Ne x y ≡ ok (word_value U8 (flag (not (nat_eq x y))))
differs_is w x y h k =
    let one = flag_is_small (not (nat_eq x y)) in
    rw (cast w x h, cast w y k) (ap (λ n. ok (word_value U8 n)) (small w (flag (not (nat_eq x y))) (omega (arith, one))))

pub both_is : (a b : Bool) → computed U8 (inner U8) cop.And (flag a) (flag b) ≡ ok (word_value U8 (flag (a && b)))
both_is true true = refl
both_is true false = refl
both_is false true = refl
both_is false false = refl

-- a truth value is a number of a byte
pub flag_fits : (b : Bool) → flag b < 2 ^ bits U8
flag_fits true = omega arith
flag_fits false = omega arith

-- a numeral
pub numeral : (fr : Frame) (w : Word) (n : ℕ) → n < 2 ^ bits w → KeepsNumber fr w (number n) n
numeral fr w n h = record { keeps = record { word = w; laid = refl; is = refl; small = h }; small = h }

-- a sum, and a difference that isn't below 0
pub sum_is : (w : Word) (x y : ℕ) → x < 2 ^ bits w → y < 2 ^ bits w → computed w (inner w) cop.Add x y ≡ ok (word_value w ((x + y) % 2 ^ bits w))
sum_is w x y h k = rw (cast w x h, cast w y k) (ap (λ n. ok (word_value w n)) (kept w (x + y)))

pub difference_is : (w : Word) (x y : ℕ) → x < 2 ^ bits w → y ≤ x → computed w (inner w) cop.Sub x y ≡ ok (word_value w (x - y))
difference_is w x y h k =
    rw (cast w x h, cast w y (omega (arith, h, k)))
    (ap (λ n. ok (word_value w n))
    (difference w x y (omega (arith, h, k)) ∙ ap (λ n. n % 2 ^ bits w) (omega (arith, h, k)) ∙ add-mul-mod_self_right (x - y) 1 (2 ^ bits w) ∙ mod-eq_of_lt (omega (arith, h, k))))

-- ---- parts of machine values

abbrev pub none_taken : Parts → Bool
none_taken end = true
none_taken (part x t taken ps) = not taken && none_taken ps

-- the scalars of a field that isn't taken are a machine value of its type
pub record MachinePart (types : ℕ → Option Tau) (i : ℕ) (ps : Parts) (us : List Scalar) : Type 0 where
  pub scalars : List Scalar
  pub there : part_at i ps us ≡ Some scalars
  pub machine : is_machine types (type_of_part i ps) scalars ≡ true

-- of a test that isn't taken
not_taken : (taken now : Bool) → not taken ≡ true → (taken || now) ≡ true → now ≡ true
not_taken false now h e = e
not_taken true now h e = absurd (cc)

pub machine_part : (types : ℕ → Option Tau) (i : ℕ) (ps : Parts) (us : List Scalar) → none_taken ps ≡ true → are_machine types ps us ≡ true → i < count ps → MachinePart types i ps us
unfolding are_machine part_at type_of_part count
machine_part types i end us n e h = absurd (omega (arith, h))
machine_part types zero (part x t taken ps) us n e h =
    let b = and_parts (nat_le (slots t) (length us)) _ e in
    let c = and_parts (taken || is_machine types t (take (slots t) us)) _ b.1 in
    record { scalars = take (slots t) us; there = rw b.0 refl; machine = not_taken taken (is_machine types t (take (slots t) us)) (and_parts (not taken) (none_taken ps) n).0 c.0 }
machine_part types (suc i) (part x t taken ps) us n e h =
    let b = and_parts (nat_le (slots t) (length us)) _ e in
    let c = and_parts (taken || is_machine types t (take (slots t) us)) _ b.1 in
    let r = machine_part types i ps (drop (slots t) us) (and_parts (not taken) (none_taken ps) n).1 c.1 (omega (arith, h)) in
    record { scalars = r.scalars; there = r.there; machine = r.machine }

-- what is taken of a front, and what is behind it
pub take_front : (n : ℕ) (xs ys : List Scalar) → length xs ≡ n → take n (xs ++ ys) ≡ xs
take_front n xs ys e = subst (λ m. take m (xs ++ ys) ≡ xs) e (take-append_seam xs ys)

pub drop_front : (n : ℕ) (xs ys : List Scalar) → length xs ≡ n → drop n (xs ++ ys) ≡ ys
drop_front n xs ys e = subst (λ m. drop m (xs ++ ys) ≡ ys) e (drop-append_seam xs ys)

-- a machine value before others
pub machine_front : (types : ℕ → Option Tau) (x : List ℕ) (t : Tau) (ps : Parts) (us ws : List Scalar) → is_machine types t us ≡ true → are_machine types ps ws ≡ true
    → are_machine types (part x t false ps) (us ++ ws) ≡ true
unfolding are_machine
machine_front types x t ps us ws m r =
    let n = machine_slots types t us m in
    let all = length-append us ws in
    rw (le-leb (slots t) (length (us ++ ws)) (omega (arith, n, all)), take_front (slots t) us ws n, drop_front (slots t) us ws n, m) r

-- scalars in the middle of others are replaced
pub middle_spliced : (d n : ℕ) (front old back ws : List Scalar) (l : Layout) → size l ≡ n → length front ≡ d → length old ≡ n → spliced (spot d l) ws (front ++ (old ++ back)) ≡ front ++ (ws ++ back)
middle_spliced d n front old back ws l e h k =
    spliced_next d n front (old ++ back) ws l e h ∙ ap (λ z. (front ++ ws) ++ z) (drop_front n old back k) ∙ append_assoc front ws back

-- ---- the call of a turn

-- the type of the instance at a place, where that is a type
pub type_is : (o : Option Tau) (t : Tau) → is_type o t ≡ true → o ≡ Some t
type_is None t e = absurd (cc)
type_is (Some u) t e = ap Some (same_is u t e)

module _ (types : ℕ → Option Tau) (numbered : Tau → ℕ) (q : Linked) (l : Layout) (callee : List ℕ) (price : Price) (a : Local) where
  abbrev lay_of : Tau → Layout
  lay_of t = lay_c q (c_type numbered t)

  -- what a turn gives is set to a part of a local
  pub turn_runs : (fr : Frame) (s s' : State) (r : Tau) (to item i : ℕ) (xs : List Local) (x y : Local) (steps : List Step) (tag us ws after : List Scalar) (left rest : ℕ)
      → Scene a fr xs → slice_get xs to ≡ Some x → slice_get xs item ≡ Some y → y.scalars ≡ us → IsReadable y.layout us
      → Keeps fr (field_of_argument 3) (cell U32) tag → IsReadable (cell U32) tag
      → walk (map step_name steps) x.layout ≡ Some (spot i (lay_of r)) → spliced (spot i (lay_of r)) ws x.scalars ≡ after → length after ≡ size x.layout → length xs ≤ 2 ^ 64
      → (c : TurnCalled types numbered q callee price r (typed (cell U32) tag) (typed y.layout us) s s' ws left rest)
      → Reaches q numbered l a (turning callee to steps item ∷ []) fr (as_run s) (suc c.steps) (replaced to after xs) (as_run s')
  turn_runs fr s s' r to item i xs x y steps tag us ws after left rest f e e' holds readable tag_kept tag_reads leads becomes sized few c =
      record {
        frame = with_scalars (local_name to) after fr;
        runs =
            runs_call q l (path (local to) steps) callee (operand (field_of_argument 3) ∷ operand (whole_local item) ∷ []) fr (as_run s) (as_run s')
            (typed (cell U32) tag ∷ typed y.layout us ∷ []) (typed (lay_of r) ws) c.steps (record { frame = with_scalars (local_name to) after fr; store = s'.store })
            (two_judged q.program.structs s.store fr (operand (field_of_argument 3)) (operand (whole_local item)) (typed (cell U32) tag) (typed y.layout us)
            (held_read q.program.structs s.store fr argument (field 3 ∷ []) (cell U32) tag tag_kept tag_reads)
            (held_read q.program.structs s.store fr (local item) [] y.layout us (subst (λ z. Keeps fr (whole_local item) y.layout z) holds (scene_whole a fr item xs y e' f)) readable))
            c.answers
            (subst (λ z. write q.program.structs fr s'.store (path (local to) steps) (typed (lay_of r) ws) ≡ ok (record { frame = with_scalars (local_name to) z fr; store = s'.store })) becomes
            (write_part numbered q.program.structs s'.store fr (local to) steps x.layout x.scalars ws (spot i (lay_of r)) (typed (lay_of r) ws) (stand_at fr 0 to to xs x (omega arith) e f.locals) leads (given_typed (lay_of r) ws)));
        scene = scene_set a fr to xs x after e sized few f;
      }
