-- What is made of lawful types is lawful: what is observed, what has arguments for its variables, what has fields taken, and what has its
-- alternatives in order.
use Rattle.std.proofs.Common.{◌≡◌, ℕ, suc, ◌+◌, ◌<◌, ◌||◌, Bool, true, false, cond, List, [], ◌∷◌, map, length, refl, sym, ap, ◌∙◌, subst as carry, arith}
use Rattle.std.proofs.lemmas.List.Elements.{All-get_or}
use Rattle.std.proofs.lemmas.Option.{slice_get-get_or}
use Rattle.std.proofs.lemmas.Bool.{or_parts}
use Rattle.std.specs.Cmp.Lexicographic.{nat_list_eq_equiv}
use Rattle.std.specs.List.{All, slice_get}
use Rattle.std.specs.Str.{bytes_eq}
use Rattle.cg_base.specs.Types.{Tau, var, seen, unit, word, bool, arrow, abs, variant, fields, Taus, none, more, Parts, end, part, Piece, to_taus, to_parts}
use Rattle.cg_kinds.specs.Kinds.{bang, bang_all, bang_parts, or_unit, subst, subst_all, subst_parts}
use Rattle.cg_core_def.specs.Lawful.{AreApart, AreLawfulParts, AreLawfulTypes, AreRising, AreSome, HasArguments, IsLawfulType, part_names, types_count}
use Rattle.cg_resolve_def.specs.Declared.{is_among}
use Rattle.cg_resolve_def.specs.Expand.{all_taken, bytes_le, in_order, inserted, take_of, taken_parts}
use Rattle.cg_resolve_def.proofs.PartNames.{all_names, bang_names, piece_names, subst_names, taken_names}

-- parts of a record: there is one at least, their names are apart, and their types are lawful
abbrev pub ArePartsOf : ℕ → Parts → Type 0
ArePartsOf vars ps = AreSome (part_names ps) × AreApart (part_names ps) × AreLawfulParts vars ps

-- alternatives of a variant: such parts, whose names rise
abbrev pub AreAltsOf : ℕ → Parts → Type 0
AreAltsOf vars ps = AreSome (part_names ps) × AreApart (part_names ps) × AreRising (part_names ps) × AreLawfulParts vars ps

-- parts and alternatives with the names of others
same_parts : (vars wars : ℕ) (ps qs : Parts) → part_names qs ≡ part_names ps → ArePartsOf vars ps → AreLawfulParts wars qs → ArePartsOf wars qs
same_parts vars wars ps qs e h l = (carry AreSome (sym e) h.0, carry AreApart (sym e) h.1, l)

same_alts : (vars wars : ℕ) (ps qs : Parts) → part_names qs ≡ part_names ps → AreAltsOf vars ps → AreLawfulParts wars qs → AreAltsOf wars qs
same_alts vars wars ps qs e h l = (carry AreSome (sym e) h.0, carry AreApart (sym e) h.1, carry AreRising (sym e) h.2, l)

-- ---- what is observed

bang_count : (ts : Taus) → types_count (bang_all ts) ≡ types_count ts
unfolding bang
bang_count none = refl
bang_count (more t ts) = ap (λ n. n + 1) (bang_count ts)

module _ (vars : ℕ) where
  mutual
    unfolding bang

    pub bang_lawful : (t : Tau) → IsLawfulType vars t → IsLawfulType vars (bang t)
    bang_lawful (var n) h = h
    bang_lawful (seen n) h = h
    bang_lawful unit h = h
    bang_lawful (word w) h = h
    bang_lawful bool h = h
    bang_lawful (arrow a b) h = h
    bang_lawful (abs n ts s) h = (carry (HasArguments n) (sym (bang_count ts)) h.0, bang_all_lawful ts h.1)
    bang_lawful (variant ps) h = same_alts vars vars ps (bang_parts ps) (bang_names ps) h (bang_parts_lawful ps h.3)
    bang_lawful (fields ps s) h = same_parts vars vars ps (bang_parts ps) (bang_names ps) h (bang_parts_lawful ps h.2)

    bang_all_lawful : (ts : Taus) → AreLawfulTypes vars ts → AreLawfulTypes vars (bang_all ts)
    bang_all_lawful none h = h
    bang_all_lawful (more t ts) h = (bang_lawful t h.0, bang_all_lawful ts h.1)

    bang_parts_lawful : (ps : Parts) → AreLawfulParts vars ps → AreLawfulParts vars (bang_parts ps)
    bang_parts_lawful end h = h
    bang_parts_lawful (part n t taken ps) h = (bang_lawful t h.0, bang_parts_lawful ps h.1)

-- ---- what has arguments for its variables

module _ (args : List Tau) where
  subst_count : (ts : Taus) → types_count (subst_all args ts) ≡ types_count ts
  unfolding subst
  subst_count none = refl
  subst_count (more t ts) = ap (λ n. n + 1) (subst_count ts)

  module _ (vars : ℕ) (lawful : All (IsLawfulType vars) args) where
    arg_lawful : (n : ℕ) → n < length args → IsLawfulType vars (or_unit (slice_get args n))
    arg_lawful n lt = carry (λ o. IsLawfulType vars (or_unit o)) (sym (slice_get-get_or args n unit lt)) (All-get_or (IsLawfulType vars) args n unit lt lawful)

    mutual
      unfolding subst

      pub subst_lawful : (t : Tau) → IsLawfulType (length args) t → IsLawfulType vars (subst args t)
      subst_lawful (var n) h = arg_lawful n h
      subst_lawful (seen n) h = bang_lawful vars (or_unit (slice_get args n)) (arg_lawful n h)
      subst_lawful unit h = h
      subst_lawful (word w) h = h
      subst_lawful bool h = h
      subst_lawful (arrow a b) h = (subst_lawful a h.0, subst_lawful b h.1)
      subst_lawful (abs n ts s) h = (carry (HasArguments n) (sym (subst_count ts)) h.0, subst_all_lawful ts h.1)
      subst_lawful (variant ps) h = same_alts (length args) vars ps (subst_parts args ps) (subst_names args ps) h (subst_parts_lawful ps h.3)
      subst_lawful (fields ps s) h = same_parts (length args) vars ps (subst_parts args ps) (subst_names args ps) h (subst_parts_lawful ps h.2)

      subst_all_lawful : (ts : Taus) → AreLawfulTypes (length args) ts → AreLawfulTypes vars (subst_all args ts)
      subst_all_lawful none h = h
      subst_all_lawful (more t ts) h = (subst_lawful t h.0, subst_all_lawful ts h.1)

      subst_parts_lawful : (ps : Parts) → AreLawfulParts (length args) ps → AreLawfulParts vars (subst_parts args ps)
      subst_parts_lawful end h = h
      subst_parts_lawful (part n t taken ps) h = (subst_lawful t h.0, subst_parts_lawful ps h.1)

-- ---- what has fields taken

taken_lawful : (names : List (List ℕ)) (vars : ℕ) (ps : Parts) → AreLawfulParts vars ps → AreLawfulParts vars (taken_parts names ps)
taken_lawful names vars end h = h
taken_lawful names vars (part n t taken ps) h = (h.0, taken_lawful names vars ps h.1)

all_lawful : (vars : ℕ) (ps : Parts) → AreLawfulParts vars ps → AreLawfulParts vars (all_taken ps)
all_lawful vars end h = h
all_lawful vars (part n t taken ps) h = (h.0, all_lawful vars ps h.1)

-- where what is taken keeps names and types
take_kept : (taken : Parts → Parts) (vars : ℕ) → ((ps : Parts) → part_names (taken ps) ≡ part_names ps) → ((ps : Parts) → AreLawfulParts vars ps → AreLawfulParts vars (taken ps)) → (t : Tau)
    → IsLawfulType vars t → IsLawfulType vars (take_of taken t)
take_kept taken vars names kept (var n) h = h
take_kept taken vars names kept (seen n) h = h
take_kept taken vars names kept unit h = h
take_kept taken vars names kept (word w) h = h
take_kept taken vars names kept bool h = h
take_kept taken vars names kept (arrow a b) h = h
take_kept taken vars names kept (abs n ts s) h = h
take_kept taken vars names kept (variant ps) h = h
take_kept taken vars names kept (fields ps s) h = same_parts vars vars ps (taken ps) (names ps) h (kept ps h.2)

pub take_some_lawful : (names : List (List ℕ)) (vars : ℕ) (t : Tau) → IsLawfulType vars t → IsLawfulType vars (take_of (taken_parts names) t)
take_some_lawful names vars t h = take_kept (taken_parts names) vars (taken_names names) (taken_lawful names vars) t h

pub take_all_lawful : (vars : ℕ) (t : Tau) → IsLawfulType vars t → IsLawfulType vars (take_of all_taken t)
take_all_lawful vars t h = take_kept all_taken vars all_names (all_lawful vars) t h

-- ---- lists of types and of parts

abbrev pub names_of_pieces : List Piece → List (List ℕ)
names_of_pieces ps = map (λ p. p.name) ps

abbrev pub AreLawfulPieces : ℕ → List Piece → Type 0
AreLawfulPieces vars [] = Unit {0}
AreLawfulPieces vars (p ∷ ps) = IsLawfulType vars p.ty × AreLawfulPieces vars ps

-- parts as a list
pub record ArePieces (vars : ℕ) (ps : List Piece) : Type 0 where
  pub apart : AreApart (names_of_pieces ps)
  pub lawful : AreLawfulPieces vars ps

pieces_lawful : (vars : ℕ) (ps : List Piece) → AreLawfulPieces vars ps → AreLawfulParts vars (to_parts ps)
unfolding to_parts
pieces_lawful vars [] h = h
pieces_lawful vars (p ∷ ps) h = (h.0, pieces_lawful vars ps h.1)

pub parts_of_pieces : (vars : ℕ) (ps : List Piece) → AreSome (names_of_pieces ps) → ArePieces vars ps → ArePartsOf vars (to_parts ps)
parts_of_pieces vars ps some h = (carry AreSome (sym (piece_names ps)) some, carry AreApart (sym (piece_names ps)) h.apart, pieces_lawful vars ps h.lawful)

pub alts_of_pieces : (vars : ℕ) (ps : List Piece) → AreSome (names_of_pieces ps) → AreRising (names_of_pieces ps) → ArePieces vars ps → AreAltsOf vars (to_parts ps)
alts_of_pieces vars ps some rising h =
    (carry AreSome (sym (piece_names ps)) some, carry AreApart (sym (piece_names ps)) h.apart, carry AreRising (sym (piece_names ps)) rising, pieces_lawful vars ps h.lawful)

pub list_count : (ts : List Tau) → types_count (to_taus ts) ≡ length ts
unfolding to_taus
list_count [] = refl
list_count (t ∷ ts) = omega (arith, list_count ts)

pub list_lawful : (vars : ℕ) (ts : List Tau) → All (IsLawfulType vars) ts → AreLawfulTypes vars (to_taus ts)
unfolding to_taus
list_lawful vars [] h = tt
list_lawful vars (t ∷ ts) h = (h 0 t (omega arith), list_lawful vars ts (λ k d lt. h (suc k) d (omega arith)))

-- ---- alternatives in order

among_inserted : (p : Piece) (qs : List Piece) (n : List ℕ) → is_among (names_of_pieces (inserted p qs)) n ≡ (bytes_eq n p.name || is_among (names_of_pieces qs) n)
among_inserted p [] n = refl
among_inserted p (q ∷ qs) n = pick (bytes_le p.name q.name) (among_inserted p qs n)
  where
    turn : (a b c : Bool) → (b || (a || c)) ≡ (a || (b || c))
    turn true true c = refl
    turn true false c = refl
    turn false true c = refl
    turn false false c = refl

    pick : (test : Bool) → is_among (names_of_pieces (inserted p qs)) n ≡ (bytes_eq n p.name || is_among (names_of_pieces qs) n)
        → is_among (names_of_pieces (cond test (p ∷ q ∷ qs) (q ∷ inserted p qs))) n ≡ (bytes_eq n p.name || is_among (names_of_pieces (q ∷ qs)) n)
    pick true h = refl
    pick false h = ap (λ b. bytes_eq n q.name || b) h ∙ turn (bytes_eq n p.name) (bytes_eq n q.name) (is_among (names_of_pieces qs) n)

inserted_apart : (p : Piece) (qs : List Piece) → is_among (names_of_pieces qs) p.name ≡ false → AreApart (names_of_pieces qs) → AreApart (names_of_pieces (inserted p qs))
inserted_apart p [] new apart = (refl, apart)
inserted_apart p (q ∷ qs) new apart = pick (bytes_le p.name q.name) (inserted_apart p qs (or_parts (bytes_eq p.name q.name) (is_among (names_of_pieces qs) p.name) new).1 apart.1)
  where
    first : is_among (names_of_pieces (inserted p qs)) q.name ≡ false
    first =
        among_inserted p qs q.name
        ∙ ap (λ b. b || is_among (names_of_pieces qs) q.name) (nat_list_eq_equiv.symm q.name p.name ∙ (or_parts (bytes_eq p.name q.name) (is_among (names_of_pieces qs) p.name) new).0) ∙ apart.0

    pick : (test : Bool) → AreApart (names_of_pieces (inserted p qs)) → AreApart (names_of_pieces (cond test (p ∷ q ∷ qs) (q ∷ inserted p qs)))
    pick true rest = (new, apart)
    pick false rest = (first, rest)

inserted_lawful : (vars : ℕ) (p : Piece) (qs : List Piece) → IsLawfulType vars p.ty → AreLawfulPieces vars qs → AreLawfulPieces vars (inserted p qs)
inserted_lawful vars p [] h rest = (h, rest)
inserted_lawful vars p (q ∷ qs) h rest = pick (bytes_le p.name q.name) (inserted_lawful vars p qs h rest.1)
  where
    pick : (test : Bool) → AreLawfulPieces vars (inserted p qs) → AreLawfulPieces vars (cond test (p ∷ q ∷ qs) (q ∷ inserted p qs))
    pick true behind = (h, rest)
    pick false behind = (rest.0, behind)

pub among_in_order : (ps : List Piece) (n : List ℕ) → is_among (names_of_pieces (in_order ps)) n ≡ is_among (names_of_pieces ps) n
among_in_order [] n = refl
among_in_order (p ∷ ps) n = among_inserted p (in_order ps) n ∙ ap (λ b. bytes_eq n p.name || b) (among_in_order ps n)

pub in_order_pieces : (vars : ℕ) (ps : List Piece) → ArePieces vars ps → ArePieces vars (in_order ps)
in_order_pieces vars [] h = h
in_order_pieces vars (p ∷ ps) h =
    let rest = in_order_pieces vars ps (record { apart = h.apart.1; lawful = h.lawful.1 }) in
    record {
      apart = inserted_apart p (in_order ps) (among_in_order ps p.name ∙ h.apart.0) rest.apart;
      lawful = inserted_lawful vars p (in_order ps) h.lawful.0 rest.lawful;
    }

pub in_order_some : (ps : List Piece) → AreSome (names_of_pieces ps) → AreSome (names_of_pieces (in_order ps))
in_order_some [] h = h
in_order_some (p ∷ ps) h = some (in_order ps)
  where
    some : (qs : List Piece) → AreSome (names_of_pieces (inserted p qs))
    some [] = tt
    some (q ∷ qs) = pick (bytes_le p.name q.name)
      where
        pick : (test : Bool) → AreSome (names_of_pieces (cond test (p ∷ q ∷ qs) (q ∷ inserted p qs)))
        pick true = tt
        pick false = tt
