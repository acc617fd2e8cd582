-- A value that is an address has digits.
use Rattle.std.proofs.Common.{List, subst}
use Rattle.cg_base.specs.Bytes.{digit, Each}
use Rattle.cg_base.specs.declared.place.Place.{Place}
use Rattle.std.specs.Prelude.{⊤}
use Rattle.cg_heaptext_def.specs.Grammar.{ReadsValue}
use Rattle.cg_heaptext_def.specs.Tokens.{Lexeme}
use Rattle.cg_heaptext_def.specs.Trees as trees
use Rattle.cg_heaptext_def.specs.Trees.{Written, numeral, truth, nothing, gone, address, constant, applied, inside, tuple, record', bare}
use Rattle.cg_heaptext_entries.specs.Index.{numeral_of}
use Rattle.cg_heaptext_entries.specs.declared.entry.Numeral.{Numeral}
use Rattle.cg_heaptext_index.proofs.Spelled.{EachToken, divided_tokens}
use Rattle.cg_heaptext_lexer.specs.Next.{Cursor}
use Rattle.cg_heaptext_values.specs.Values.{IsHead, StandsAt}
use Rattle.cg_heaptext_values.specs.declared.head.Head.TheVariants as head

abbrev HasDigits : Written → Type 0
HasDigits (address p n) = Each digit n.digits
HasDigits _ = ⊤

reads_digits : (v : Written) (ts rest : List Lexeme) → EachToken ts → ReadsValue v ts rest → HasDigits (bare v)
reads_digits (numeral n) ts rest h r = tt
reads_digits (truth p b) ts rest h r = tt
reads_digits (nothing p) ts rest h r = tt
reads_digits (gone p) ts rest h r = tt
reads_digits (address p n) ts rest h r = (subst EachToken r.2 (subst EachToken r.1 h).1).0.1
reads_digits (constant p x) ts rest h r = tt
reads_digits (applied p x v) ts rest h r = tt
reads_digits (inside p v) ts rest h r = reads_digits v r.0 r.2.0 (subst EachToken r.1 h).1 r.2.1
reads_digits (tuple p vs) ts rest h r = tt
reads_digits (record' p fs) ts rest h r = tt

stands_digits : (at : Cursor) (v : Written) → StandsAt at v → HasDigits (bare v)
stands_digits at v s = reads_digits v s.ts s.rest (divided_tokens at.place at.rest s.ts s.before.0 s.before.2) s.reads

told : (place : Place) (n : Numeral) (w : Written) → IsHead (head.Address place n) w → HasDigits w → (Q : Written → Type 0) → ((p : Place) → Each digit n.digits.now → Q (address p (numeral_of n))) → Q w
told place n (address p m) is d Q given = subst (λ (k : trees.Numeral). Each digit k.digits → Q (address p k)) is.1 (given p) d
told place n w is d Q given = absurd is

-- where the head of a value is an address, the value is it, and its digits are digits
pub by_address : (at : Cursor) (v : Written) → StandsAt at v → (place : Place) (n : Numeral) → IsHead (head.Address place n) (bare v)
    → (Q : Written → Type 0) → ((p : Place) → Each digit n.digits.now → Q (address p (numeral_of n))) → Q (bare v)
by_address at v s place n is Q given = told place n (bare v) is (stands_digits at v s) Q given
