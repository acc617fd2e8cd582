-- What is open can be completed; and the six laws.
use Rattle.std.proofs.Common.{◌≡◌, ℕ, Bool, true, false, List, [], ◌∷◌, ◌++◌, codes, length, drop, Some, None, refl, sym, ap, ◌∙◌, append_assoc}
use Rattle.std.specs.Prelude.{nat_eq, ◌||◌}
use Rattle.std.specs.List.{AllByRecursion, starts_with}
use Rattle.std.proofs.lemmas.Bool.Decides.{Decides-eqb}
use Rattle.std.proofs.lemmas.Slice.Eq.{starts_is}
use Rattle.cg_base.specs.Reader.{Reads}
use Rattle.cg_cert.specs.Machine.{State, begin, step, opened, is_open, ended, finish, at, reader}
use Rattle.cg_cert.specs.Texts.{node_word, all_lines, CertText}
use Rattle.cg_cert.specs.Words.{spelled, words, is_begun}
use Rattle.cg_cert.specs.declared.cert.Cert.{Cert}
use Rattle.cg_cert.specs.declared.cert.CertNode.{CertNode}
use Rattle.cg_cert.specs.declared.reader.Mode.{Mode}
use Rattle.cg_cert.specs.declared.reader.Mode.TheVariants.{Word, BeforeName, BehindFun, InName, BeforeMark, InMarks, Finished, Stuck}
use Rattle.cg_cert.specs.declared.word.Lead.{Lead}
use Rattle.cg_cert.specs.declared.word.Lead.TheVariants.{Node as NodeWord, End}
use Rattle.cg_cert.specs.declared.word.Stage.{Stage}
use Rattle.cg_cert.specs.declared.word.Stage.TheVariants.{Top, Outer, Inner}
use Rattle.cg_core.specs.declared.derivation.Node.{Node}
use Rattle.cg_core.specs.declared.derivation.Node.TheVariants.{Var, Unit, Bool as Truth, Lit, Fun, Op, App, Let, LetBang, If, Con, Case, Esac, Struct, Member, Take, Put, Cast, Annot}
use Rattle.cg_cert.proofs.Complete.{complete}
use Rattle.cg_cert.proofs.Lines.{node_more, node_stands}
use Rattle.cg_cert.proofs.Sound.{head, all_of, front, Ready, Spelled, spells, sound}
use Rattle.cg_cert.proofs.Table.{run}

-- bytes one after another
run_append : (ts more : List ℕ) (s : State) → run s (ts ++ more) ≡ run (run s ts) more
run_append [] more s = refl
run_append (b ∷ ts) more s = run_append ts more (step s b)

-- ---- words

all_inner : (P : Lead → Type 0) → ((n : Node) → P (NodeWord n)) → P End → AllByRecursion P (words Inner)
all_inner P h e = (h Var, (h Unit, (h Truth, (h Lit, (h Fun, (h Op, (h App, (h Let, (h LetBang, (h If, (h Con, (h Case, (h Esac, (h Struct, (h Member, (h Take, (h Put, (h Cast, (h Annot, (e, tt))))))))))))))))))))

-- the word that bytes begin, and the rest of it
begun_lead : (P : Lead → Type 0) (leads : List Lead) (word : List ℕ) → AllByRecursion P leads → is_begun leads word ≡ true → (l : Lead) × P l × (spelled l ≡ word ++ drop (length word) (spelled l))
begun_lead P [] word all h = absurd (cc)
begun_lead P (l ∷ leads) word all h = go (starts_with nat_eq (spelled l) word) refl h (begun_lead P leads word all.1)
  where
    Found : Type 0
    Found = (k : Lead) × P k × (spelled k ≡ word ++ drop (length word) (spelled k))

    go : (t : Bool) → starts_with nat_eq (spelled l) word ≡ t → (t || is_begun leads word) ≡ true → (is_begun leads word ≡ true → Found) → Found
    go true e h later = (l, all.0, (starts_is Decides-eqb (spelled l) word (starts_with nat_eq (spelled l) word) refl).0 e)
    go false e h later = later h

-- a line that begins with a word can be completed
abbrev Closes : Stage → State → Lead → Type 0
Closes stage s l = (tail : List ℕ) × (d : Cert) × CertText (front stage s ++ (spelled l ++ tail)) d

node_closes : (s : State) → Ready Inner s → (n : Node) → Closes Inner s (NodeWord n)
node_closes s r n =
    let made : CertNode = record { node = n; marks = [] } in (
      codes "\nend\n",
      record { funs = s.funs ++ record { name = s.name; nodes = s.nodes ++ made ∷ [] } ∷ [] },
      (
        append_assoc head (all_lines (all_of s)) (node_word n ++ codes "\nend\n")
            ∙ ap (λ z. head ++ (all_lines (all_of s) ++ z)) (sym (append_assoc (node_word n) (codes "\n") (codes "end\n")))
            ∙ ap (λ z. head ++ z) (sym (append_assoc (all_lines (all_of s)) (node_word n ++ codes "\n") (codes "end\n")) ∙ ap (λ z. z ++ codes "end\n") (sym (node_more s.funs s.name s.nodes made))),
        node_stands s.funs s.name s.nodes made r.0 tt,
      ),
    )

end_closes : (s : State) → Ready Inner s → Closes Inner s End
end_closes s r = (codes "\n", record { funs = all_of s }, (append_assoc head (all_lines (all_of s)) (codes "end\n"), r.0))

stage_closes : (stage : Stage) (s : State) → Ready stage s → AllByRecursion (Closes stage s) (words stage)
stage_closes Top s r = ((codes "\nend\n", record { funs = [] }, (refl, tt)), tt)
stage_closes Outer s r = ((codes " a\nend\n", record { funs = record { name = codes "a"; nodes = [] } ∷ [] }, (refl, ((refl, (refl, tt)), tt, tt))), ((codes "\n", record { funs = [] }, (refl, tt)), tt))
stage_closes Inner s r = all_inner (Closes Inner s) (node_closes s r) (end_closes s r)

joined : (ts f w r l tail : List ℕ) → ts ≡ f ++ w → l ≡ w ++ r → ts ++ (r ++ tail) ≡ f ++ (l ++ tail)
joined ts f w r l tail e h =
    ap (λ z. z ++ (r ++ tail)) e ∙ append_assoc f w (r ++ tail) ∙ ap (λ z. f ++ z) (sym (append_assoc w r tail) ∙ ap (λ z. z ++ tail) (sym h))

word_closes : (stage : Stage) (ts : List ℕ) (s : State) → Spelled (Word stage) ts s → (rest : List ℕ) × (d : Cert) × CertText (ts ++ rest) d
word_closes stage ts s h =
    let b = begun_lead (Closes stage s) (words stage) s.word (stage_closes stage s h.2) h.1 in
    let rest : List ℕ = drop (length s.word) (spelled b.0) in
    (rest ++ b.1.0, b.1.1, (joined ts (front stage s) s.word rest (spelled b.0) b.1.0 h.0 b.2 ∙ b.1.2.0, b.1.2.1))

-- ---- all of it

module _ (ts : List ℕ) (s : State) (is : s ≡ run begin ts) where
  abbrev Ends : Type 0
  Ends = (rest : List ℕ) × (d : Cert) × (finish (run (run begin ts) rest) ≡ Some d)

  ends_by : (m : Mode) (rest : List ℕ) (d : Cert) → m ≡ s.mode → finish (run (record s { mode = m }) rest) ≡ Some d → Ends
  ends_by m rest d e h = (rest, d, ap (λ z. finish (run z rest)) (sym is) ∙ ap (λ z. finish (run (record s { mode = z }) rest)) (sym e) ∙ h)

  ends : (m : Mode) → m ≡ s.mode → Spelled m ts s → opened m ≡ true → Ends
  ends (Word stage) e h o =
      let c = word_closes stage ts s h in
      (c.0, c.1, ap finish (sym (run_append ts c.0 begin)) ∙ complete (ts ++ c.0) c.1 c.2)
  ends BeforeName e h o = ends_by BeforeName (codes "a\nend\n") _ e refl
  ends BehindFun e h o = ends_by BehindFun (codes "a\nend\n") _ e refl
  ends InName e h o = ends_by InName (codes "\nend\n") _ e refl
  ends (BeforeMark n) e h o = ends_by (BeforeMark n) (codes "-\nend\n") _ e refl
  ends (InMarks n) e h o = ends_by (InMarks n) (codes "\nend\n") _ e refl
  ends Finished e h o = ends_by Finished [] _ e refl
  ends Stuck e h o = absurd (cc)

viable : (ts : List ℕ) → is_open (run begin ts) ≡ true → (rest : List ℕ) × (d : Cert) × (finish (run (run begin ts) rest) ≡ Some d)
viable ts o = ends ts (run begin ts) refl (run begin ts).mode refl (spells ts) o

shut_at : (m : Mode) (b : ℕ) (s : State) → opened m ≡ false → is_open (at m b s) ≡ false
shut_at Stuck b s h = refl
shut_at _ b s h = absurd (cc)

none_at : (m : Mode) (s : State) → opened m ≡ false → ended m s.funs ≡ None
none_at Stuck s h = refl
none_at _ s h = absurd (cc)

pub laws : Reads reader CertText
laws = record {
  begins = refl;
  shut = λ s b h. shut_at s.mode b s h;
  no_tree = λ s h. none_at s.mode s h;
  complete = complete;
  sound = sound;
  viable = viable;
}
