-- The positions of first synonyms and signatures, with one item more.
use Rattle.std.proofs.Common.{◌≡◌, ℕ, suc, ◌+◌, Bool, true, false, List, [], ◌∷◌, ◌++◌, length, sym, ap, ◌∙◌, refl, arith, cond, add-zero, append-nil, Bor, Option, Some, None, if◌then◌else◌}
use Rattle.std.specs.BTreeMap.{BTreeMap}
use Rattle.std.specs.BTreeMap as tree
use Rattle.std.specs.Cmp.Lexicographic.{nat_list_eq_equiv}
use Rattle.std.specs.Option.{option_to_list}
use Rattle.std.specs.Str.{bytes_eq}
use Rattle.cg_base.specs.declared.kind.Bound.{Bound}
use Rattle.cg_base.specs.declared.place.Place.{Place}
use Rattle.cg_core.specs.declared.at.At.{At}
use Rattle.cg_surface.specs.Exprs.{Expr}
use Rattle.cg_surface.specs.Patterns.{Pattern}
use Rattle.cg_surface.specs.Programs.{Entry, synonym, abstract, signature, define}
use Rattle.cg_surface.specs.Written.{Written}
use Rattle.cg_resolve_def.specs.Mentions.{synonym_from, signature_from}
use Rattle.cg_resolve_declared.specs.Tables.{find, otherwise}
use Rattle.cg_resolve_declared.proofs.Firsts.{entries_more}
use Rattle.cg_resolve_mentions.specs.Positions.{found_in, pushed, AreFirsts}
use Rattle.cg_resolve_mentions.specs.declared.positions.Firsts.{Firsts}
use Rattle.cg_resolve_mentions.proofs.Pushed.{pushed_steps}

-- the first of two lists, where it isn't empty, else the second
abbrev or_else : List ℕ → List ℕ → List ℕ
or_else [] second = second
or_else (i ∷ first) second = i ∷ first

or_nothing : (first : List ℕ) → or_else first [] ≡ first
or_nothing [] = refl
or_nothing (i ∷ first) = refl

-- a choice of the first, made before or after what comes behind
behind : (b : Bool) (i : ℕ) (whole front last : List ℕ) → whole ≡ or_else front last → cond b (i ∷ []) whole ≡ or_else (cond b (i ∷ []) front) last
behind true i whole front last h = refl
behind false i whole front last h = h

-- the position of the last item, counted from the second
at_last : (from : ℕ → List ℕ) (first : List ℕ) (i : ℕ) (front : List Entry) → or_else first (from ((i + 1) + length front)) ≡ or_else first (from (i + suc (length front)))
at_last from first i front = ap (λ n. or_else first (from n)) (omega arith)

module _ (e : Entry) (name : List ℕ) where
  abbrev last_synonym : ℕ → List ℕ
  last_synonym n = synonym_from n (e ∷ []) name

  synonym_more : (i : ℕ) (front : List Entry) → synonym_from i (front ++ e ∷ []) name ≡ or_else (synonym_from i front name) (last_synonym (i + length front))
  synonym_more i [] = rw add-zero refl
  synonym_more i (synonym at params body ∷ front) = behind (bytes_eq name at.name) i _ _ _ (synonym_more (i + 1) front ∙ at_last last_synonym (synonym_from (i + 1) front name) i front)
  synonym_more i (abstract at params ∷ front) = synonym_more (i + 1) front ∙ at_last last_synonym (synonym_from (i + 1) front name) i front
  synonym_more i (signature at vars places ty ∷ front) = synonym_more (i + 1) front ∙ at_last last_synonym (synonym_from (i + 1) front name) i front
  synonym_more i (define at param body ∷ front) = synonym_more (i + 1) front ∙ at_last last_synonym (synonym_from (i + 1) front name) i front

  abbrev last_signature : ℕ → List ℕ
  last_signature n = signature_from n (e ∷ []) name

  signature_more : (i : ℕ) (front : List Entry) → signature_from i (front ++ e ∷ []) name ≡ or_else (signature_from i front name) (last_signature (i + length front))
  signature_more i [] = rw add-zero refl
  signature_more i (signature at vars places ty ∷ front) = behind (bytes_eq name at.name) i _ _ _ (signature_more (i + 1) front ∙ at_last last_signature (signature_from (i + 1) front name) i front)
  signature_more i (synonym at params body ∷ front) = signature_more (i + 1) front ∙ at_last last_signature (signature_from (i + 1) front name) i front
  signature_more i (abstract at params ∷ front) = signature_more (i + 1) front ∙ at_last last_signature (signature_from (i + 1) front name) i front
  signature_more i (define at param body ∷ front) = signature_more (i + 1) front ∙ at_last last_signature (signature_from (i + 1) front name) i front

  synonym_last : (front : List Entry) → synonym_from 0 (front ++ e ∷ []) name ≡ or_else (synonym_from 0 front name) (last_synonym (length front))
  synonym_last front = synonym_more 0 front ∙ ap (λ n. or_else (synonym_from 0 front name) (last_synonym n)) (omega arith)

  signature_last : (front : List Entry) → signature_from 0 (front ++ e ∷ []) name ≡ or_else (signature_from 0 front name) (last_signature (length front))
  signature_last front = signature_more 0 front ∙ ap (λ n. or_else (signature_from 0 front name) (last_signature n)) (omega arith)

-- what is kept for a name
abbrev Keeps : BTreeMap (Bor (List ℕ)) ℕ → BTreeMap (Bor (List ℕ)) ℕ → List ℕ → ℕ → Type 0
Keeps table new name position = (other : List ℕ) → find new other ≡ otherwise (find table other) (if bytes_eq name other then Some position else None)

-- a table that has the first positions, with one item more that has a name
table_more : (before after : List ℕ → List ℕ) (table new : BTreeMap (Bor (List ℕ)) ℕ) (name : List ℕ) (position : ℕ)
    → ((other : List ℕ) → after other ≡ or_else (before other) (if bytes_eq other name then position ∷ [] else []))
    → ((other : List ℕ) → found_in table other ≡ before other) → Keeps table new name position → (other : List ℕ) → found_in new other ≡ after other
table_more before after table new name position more are kept other =
    ap option_to_list (kept other)
    ∙ listed (find table other) (bytes_eq name other)
    ∙ ap (λ l. or_else l (if bytes_eq name other then position ∷ [] else [])) (are other)
    ∙ ap (λ b. or_else (before other) (if b then position ∷ [] else [])) (nat_list_eq_equiv.symm name other)
    ∙ sym (more other)
  where
    listed : (found : Option ℕ) (b : Bool) → option_to_list (otherwise found (if b then Some position else None)) ≡ or_else (option_to_list found) (if b then position ∷ [] else [])
    listed None true = refl
    listed None false = refl
    listed (Some i) b = refl

pub firsts_none : (firsts : Firsts) → tree.IsEmpty firsts.synonyms → tree.IsEmpty firsts.signatures → AreFirsts [] firsts
firsts_none firsts none no_more = record { synonyms = λ name. rw none refl; signatures = λ name. rw no_more refl }

module _ (front : List Entry) (at : At) (position : ℕ) (is : position ≡ length front) (firsts : Firsts) (are : AreFirsts front firsts) where
  pub firsts_synonym : (params : List At) (body : Written) (new : BTreeMap (Bor (List ℕ)) ℕ) → Keeps firsts.synonyms new at.name position
      → AreFirsts (front ++ synonym at params body ∷ []) (record { synonyms = new; signatures = firsts.signatures })
  firsts_synonym params body new kept =
      record {
        synonyms =
            table_more (synonym_from 0 front) (synonym_from 0 (front ++ synonym at params body ∷ [])) firsts.synonyms new at.name position
            (λ other. synonym_last (synonym at params body) other front ∙ ap (λ i. or_else (synonym_from 0 front other) (if bytes_eq other at.name then i ∷ [] else [])) (sym is)) are.synonyms kept;
        signatures = λ name. are.signatures name ∙ sym (signature_last (synonym at params body) name front ∙ or_nothing (signature_from 0 front name));
      }

  pub firsts_signature : (vars : List Bound) (places : List Place) (ty : Written) (new : BTreeMap (Bor (List ℕ)) ℕ) → Keeps firsts.signatures new at.name position
      → AreFirsts (front ++ signature at vars places ty ∷ []) (record { synonyms = firsts.synonyms; signatures = new })
  firsts_signature vars places ty new kept =
      record {
        synonyms = λ name. are.synonyms name ∙ sym (synonym_last (signature at vars places ty) name front ∙ or_nothing (synonym_from 0 front name));
        signatures =
            table_more (signature_from 0 front) (signature_from 0 (front ++ signature at vars places ty ∷ [])) firsts.signatures new at.name position
            (λ other. signature_last (signature at vars places ty) other front ∙ ap (λ i. or_else (signature_from 0 front other) (if bytes_eq other at.name then i ∷ [] else [])) (sym is)) are.signatures kept;
      }

  pub firsts_abstract : (params : List At) → AreFirsts (front ++ abstract at params ∷ []) firsts
  firsts_abstract params =
      record {
        synonyms = λ name. are.synonyms name ∙ sym (synonym_last (abstract at params) name front ∙ or_nothing (synonym_from 0 front name));
        signatures = λ name. are.signatures name ∙ sym (signature_last (abstract at params) name front ∙ or_nothing (signature_from 0 front name));
      }

  pub firsts_define : (param : Pattern) (body : Expr) → AreFirsts (front ++ define at param body ∷ []) firsts
  firsts_define param body =
      record {
        synonyms = λ name. are.synonyms name ∙ sym (synonym_last (define at param body) name front ∙ or_nothing (synonym_from 0 front name));
        signatures = λ name. are.signatures name ∙ sym (signature_last (define at param body) name front ∙ or_nothing (signature_from 0 front name));
      }

-- a name that has a position, and one that has none
module _ (table : BTreeMap (Bor (List ℕ)) ℕ) (targets name : List ℕ) where
  pub pushed_found : (position : ℕ) → find table name ≡ Some position → targets ++ position ∷ [] ≡ pushed table targets (name ∷ [])
  unfolding pushed
  pushed_found position found = ap (λ o. targets ++ (option_to_list o ++ [])) (sym found)

  pub pushed_absent : find table name ≡ None → targets ≡ pushed table targets (name ∷ [])
  unfolding pushed
  pushed_absent absent = sym (append-nil targets) ∙ ap (λ o. targets ++ (option_to_list o ++ [])) (sym absent)

pub ruleset position_steps = (firsts_none, firsts_abstract, firsts_define, entries_more, pushed_steps)
