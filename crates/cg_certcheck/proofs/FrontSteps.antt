-- What the walk over the fields of a record goes by: each field in front of the last one is put behind those that were checked before it.
use Rattle.std.proofs.Common.{◌≡◌, ◌<◌, ◌≤◌, ◌+◌, ℕ, suc, zero, Option, Ok, Err, List, [], ◌∷◌, ◌++◌, length, map, drop, get_or, refl, sym, ap, ◌∙◌, arith}
use Rattle.std.proofs.lemmas.List.{at_drop_more, at_drop_all}
use Rattle.cg_base.specs.declared.kind.Kinds.{Kinds}
use Rattle.cg_base.specs.declared.place.Place.{Place}
use Rattle.cg_base.specs.Types.{Tau}
use Rattle.cg_cert.specs.declared.cert.CertNode.{CertNode}
use Rattle.cg_cert.specs.declared.fault.CertFault.{CertFault}
use Rattle.cg_cert.specs.declared.fault.CertFault.TheVariants.{C1, C2, C3, Limit, Memory}
use Rattle.cg_certcheck.specs.declared.pass.Checked.{Checked}
use Rattle.cg_certcheck.specs.Forms.{last_field, more_fields}
use Rattle.cg_certcheck.specs.Standings.{ahead, all_before, named_with}
use Rattle.cg_certcheck_context.specs.View.{Agrees}
use Rattle.cg_certcheck_def.specs.Pass.{Out, Cursor, Got, GotFields, bind, in_front, check, check_fields}
use Rattle.cg_certcheck_gots.specs.Gots.{got_in}
use Rattle.cg_check_pieces.proofs.Steps.{again, same_steps}
use Rattle.cg_check_pieces.proofs.TermSizes.{size, size_fields}
use Rattle.cg_core.specs.declared.derivation.Mark.{Mark}
use Rattle.cg_core.specs.declared.term.FieldTerm.{FieldTerm}
use Rattle.cg_core.specs.declared.term.Form.{the_lemmas}
use Rattle.cg_core.specs.Kernels.{Function, the_field, the_term}
use Rattle.cg_core.specs.Terms.{OneField, end, field, to_named}
use Rattle.cg_faults.specs.Events.{next_direction, later_directions}
use Rattle.cg_typing.specs.Contexts.{Context, first, second}
use Rattle.cg_typing.specs.Trees.{first_marks, later_marks}

-- one more behind those before
pub one_more_before : (nodes : List CertNode) (cs ds : List Checked) (c : Checked) (v : GotFields) → ds ≡ cs ++ c ∷ []
    → all_before nodes ds v ≡ all_before nodes cs (in_front c.name.now (got_in nodes c.got) v)
one_more_before nodes cs ds c v e = ap (λ l. all_before nodes l v) e ∙ go cs
  where
    go : (cs : List Checked) → all_before nodes (cs ++ c ∷ []) v ≡ all_before nodes cs (in_front c.name.now (got_in nodes c.got) v)
    go [] = refl
    go (b ∷ cs) = ap (in_front b.name.now (got_in nodes b.got)) (go cs)

-- what is refused where it never is but for memory
pub memory_alone : {A B C : Type 0} (view : A → B) (other : A → C) (e : CertFault) (b : B) (o : Out C) → Agrees view (Err e) (Ok b) → Agrees other (Err e) o
memory_alone view other (C1 at) b o h = absurd (cc)
memory_alone view other (C2 n) b o h = absurd (cc)
memory_alone view other (C3 n) b o h = absurd (cc)
memory_alone view other (Limit limit) b o h = absurd (cc)
memory_alone view other Memory b o h = tt

-- fields in their lists
named_more : (f : FieldTerm Place) (fs : List (FieldTerm Place)) → to_named (map the_field (f ∷ fs)) ≡ field f.name (the_term f.term) (to_named (map the_field fs))
unfolding to_named
named_more f fs =
    let one : the_field f ≡ record { name = f.name; term = the_term f.term } = search the_lemmas in
    ap (λ (x : OneField Place). field x.name x.term (to_named (map the_field fs))) one

pub named_last : (last : FieldTerm Place) → named_with [] last ≡ field last.name (the_term last.term) end
unfolding to_named
named_last last = named_more last []

-- the size of a field in a list, and of the last one
size_front : (f last : FieldTerm Place) (fs : List (FieldTerm Place)) → size_fields (named_with (f ∷ fs) last) ≡ size (the_term f.term) + size_fields (named_with fs last) + 1
unfolding size
size_front f last fs = ap size_fields (named_more f (fs ++ last ∷ []))

pub size_next : (fs : List (FieldTerm Place)) (last f : FieldTerm Place) (i : ℕ) → i < length fs → f ≡ get_or fs i f → size (the_term f.term) + 1 ≤ size_fields (named_with fs last)
size_next [] last f i h e = absurd (omega (arith, h))
size_next (d ∷ fs) last f zero h e =
    let is : size (the_term f.term) ≡ size (the_term d.term) = ap (λ (x : FieldTerm Place). size (the_term x.term)) e in
    omega (arith, size_front d last fs, is)
size_next (d ∷ fs) last f (suc i) h e = omega (arith, size_front d last fs, size_next fs last f i (omega (arith, h)) e)

pub size_last : (fs : List (FieldTerm Place)) (last : FieldTerm Place) → size (the_term last.term) + 1 ≤ size_fields (named_with fs last)
unfolding size
size_last [] last = let e : size_fields (named_with [] last) ≡ size (the_term last.term) + 0 + 1 = ap size_fields (named_last last) in omega (arith, e)
size_last (d ∷ fs) last = omega (arith, size_front d last fs, size_last fs last)

module _ (functions : List Function) (vars : List Kinds) where
  -- a field and those behind it
  fields_then : (g : Context) (ds : List (Option Tau)) (ss : List (List Mark)) (at : Cursor) (f last : FieldTerm Place) (fs : List (FieldTerm Place))
      → check_fields functions vars g ds ss at (named_with (f ∷ fs) last) ≡ more_fields functions vars g ds ss at f.name (the_term f.term) (named_with fs last)
  unfolding to_named
  fields_then g ds ss at f last [] =
      ap (check_fields functions vars g ds ss at) (named_more f (last ∷ []) ∙ ap (field f.name (the_term f.term)) (named_last last))
      ∙ ap (more_fields functions vars g ds ss at f.name (the_term f.term)) (sym (named_last last))
  fields_then g ds ss at f last (d ∷ fs) =
      ap (check_fields functions vars g ds ss at) (named_more f (d ∷ fs ++ last ∷ []) ∙ ap (field f.name (the_term f.term)) (named_more d (fs ++ last ∷ [])))
      ∙ ap (more_fields functions vars g ds ss at f.name (the_term f.term)) (sym (named_more d (fs ++ last ∷ [])))

  module _ (g : Context) (ds : List (Option Tau)) (ss : List (List Mark)) (at : Cursor) (fs : List (FieldTerm Place)) (last : FieldTerm Place) (i : ℕ) where
    abbrev Left : Out GotFields
    Left = check_fields functions vars g ds ss at (named_with (drop i fs) last)

    abbrev Next : FieldTerm Place → Out Got
    Next f = check functions vars (first (first_marks ss) g) (next_direction ds) at (the_term f.term)

    left_then : (f : FieldTerm Place) → i < length fs → f ≡ get_or fs i f
        → Left ≡ more_fields functions vars g ds ss at f.name (the_term f.term) (named_with (drop (i + 1) fs) last)
    left_then f h e =
        at_drop_more (λ l. check_fields functions vars g ds ss at (named_with l last)) fs i f h
        ∙ ap (λ (x : FieldTerm Place). check_fields functions vars g ds ss at (named_with (x ∷ drop (i + 1) fs) last)) (sym e)
        ∙ fields_then g ds ss at f last (drop (i + 1) fs)

    pub next_field : (nodes : List CertNode) (cs bs : List Checked) (c : Checked) (f : FieldTerm Place) → bs ≡ cs ++ c ∷ [] → i < length fs → f ≡ get_or fs i f
        → Next f ≡ Ok (got_in nodes c.got) → c.name.now ≡ f.name
        → ahead nodes cs Left
        ≡ ahead nodes bs (check_fields functions vars (second (first_marks ss) g) (later_directions ds) (later_marks ss) (got_in nodes c.got).at (named_with (drop (i + 1) fs) last))
    next_field nodes cs bs c f more h e k name =
        let later = check_fields functions vars (second (first_marks ss) g) (later_directions ds) (later_marks ss) (got_in nodes c.got).at (named_with (drop (i + 1) fs) last) in
        ap (ahead nodes cs) (left_then f h e
        ∙ ap (λ (o : Out Got). bind o (λ u. bind (check_fields functions vars (second (first_marks ss) g) (later_directions ds) (later_marks ss) u.at (named_with (drop (i + 1) fs) last)) (λ v. Ok (in_front f.name u v)))) k
        ∙ ap (λ name. bind {B = GotFields} later (λ v. Ok (in_front name (got_in nodes c.got) v))) (sym name))
        ∙ again later (λ v. Ok (in_front c.name.now (got_in nodes c.got) v)) (λ v. Ok (all_before nodes cs v))
        ∙ same_steps later _ _ (λ v. ap Ok (sym (one_more_before nodes cs bs c v more)))

    pub next_fails : {A B : Type 0} (view : A → Got) (other : B → GotFields) (nodes : List CertNode) (cs : List Checked) (f : FieldTerm Place) (fault : CertFault) → i < length fs → f ≡ get_or fs i f
        → Agrees view (Err fault) (Next f) → Agrees other (Err fault) (ahead nodes cs Left)
    next_fails view other nodes cs f fault h e a = go fault a
      where
        fails : (x : CertFault) → Next f ≡ Err x → ahead nodes cs Left ≡ Err x
        fails x k =
            ap (ahead nodes cs) (left_then f h e
            ∙ ap (λ (o : Out Got). bind o (λ u. bind (check_fields functions vars (second (first_marks ss) g) (later_directions ds) (later_marks ss) u.at (named_with (drop (i + 1) fs) last)) (λ v. Ok (in_front f.name u v)))) k)

        go : (fault : CertFault) → Agrees view (Err fault) (Next f) → Agrees other (Err fault) (ahead nodes cs Left)
        go (C1 n) a = fails (C1 n) a
        go (C2 n) a = fails (C2 n) a
        go (C3 n) a = fails (C3 n) a
        go (Limit limit) a = fails (Limit limit) a
        go Memory a = tt

    pub none_left : length fs ≤ i → Left ≡ last_field functions vars g ds at last.name (the_term last.term)
    none_left h = at_drop_all (λ l. check_fields functions vars g ds ss at (named_with l last)) fs i h ∙ ap (check_fields functions vars g ds ss at) (named_last last)
