-- A type as a list of tokens, which gives it back: so a table of types can be the value of a struct.
use Rattle.std.specs.Prelude.{◌≡◌, ℕ, Bool, List, [], ◌∷◌, ◌++◌, fold, refl}
use Rattle.std.proofs.Common.{ap, ◌∙◌}
use Rattle.std.specs.Coded.{Coded, code_by}
use Rattle.cg_base.specs.declared.kind.Word.{Word}
use Rattle.cg_base.specs.declared.kind.Sigil.{Sigil}
use Rattle.cg_base.specs.Types.{Tau, var, seen, unit, word, bool, arrow, abs, variant, fields, Taus, none, more, Parts, end, part}
use Rattle.cg_inst_types.specs.Forms.{with_argument, with_part}

-- what is done with the types read, the last one first
pub data Token : Type 0 where
  a_var : ℕ → Token
  a_seen : ℕ → Token
  a_unit : Token
  a_word : Word → Token
  a_bool : Token
  an_arrow : Token
  an_abs : List ℕ → Sigil → Token
  an_argument : Token
  a_variant : Token
  a_record : Sigil → Token
  a_part : List ℕ → Bool → Token

abbrev pub read : List Tau → Token → List Tau
read ts (a_var n) = var n ∷ ts
read ts (a_seen n) = seen n ∷ ts
read ts a_unit = unit ∷ ts
read ts (a_word w) = word w ∷ ts
read ts a_bool = bool ∷ ts
read (b ∷ a ∷ ts) an_arrow = arrow a b ∷ ts
read ts (an_abs name sigil) = abs name none sigil ∷ ts
read (t ∷ rest ∷ ts) an_argument = with_argument rest t ∷ ts
read ts a_variant = variant end ∷ ts
read ts (a_record sigil) = fields end sigil ∷ ts
read (t ∷ rest ∷ ts) (a_part name taken) = with_part rest name t taken ∷ ts
read ts _ = ts

-- the tokens of a type
abbrev mutual
  pub tokens : Tau → List Token
  tokens (var n) = a_var n ∷ []
  tokens (seen n) = a_seen n ∷ []
  tokens unit = a_unit ∷ []
  tokens (word w) = a_word w ∷ []
  tokens bool = a_bool ∷ []
  tokens (arrow a b) = tokens a ++ (tokens b ++ an_arrow ∷ [])
  tokens (abs name ts sigil) = an_abs name sigil ∷ argument_tokens ts
  tokens (variant ps) = a_variant ∷ part_tokens ps
  tokens (fields ps sigil) = a_record sigil ∷ part_tokens ps

  pub argument_tokens : Taus → List Token
  argument_tokens none = []
  argument_tokens (more t ts) = argument_tokens ts ++ (tokens t ++ an_argument ∷ [])

  pub part_tokens : Parts → List Token
  part_tokens end = []
  part_tokens (part name t taken ps) = part_tokens ps ++ (tokens t ++ a_part name taken ∷ [])

read_append : (ts : List Tau) (xs ys : List Token) → fold read ts (xs ++ ys) ≡ fold read (fold read ts xs) ys
read_append ts [] ys = refl
read_append ts (x ∷ xs) ys = read_append (read ts x) xs ys

-- the tokens of what a type gets one more of, of that, and the token that puts them together
reads_more : (ts : List Tau) (xs : List Token) (us : List Tau) → fold read ts xs ≡ us → (t : Tau) (x : Token) → fold read us (tokens t) ≡ t ∷ us →
    fold read ts (xs ++ (tokens t ++ x ∷ [])) ≡ read (t ∷ us) x
reads_more ts xs us e t x f =
    read_append ts xs (tokens t ++ x ∷ []) ∙ ap (λ vs. fold read vs (tokens t ++ x ∷ [])) e ∙ read_append us (tokens t) (x ∷ []) ∙ ap (λ vs. read vs x) f

-- a type's tokens are read as the type
mutual
  reads : (t : Tau) (ts : List Tau) → fold read ts (tokens t) ≡ t ∷ ts
  reads (var n) ts = refl
  reads (seen n) ts = refl
  reads unit ts = refl
  reads (word w) ts = refl
  reads bool ts = refl
  reads (arrow a b) ts = read_append ts (tokens a) (tokens b ++ an_arrow ∷ []) ∙ ap (λ us. fold read us (tokens b ++ an_arrow ∷ [])) (reads a ts) ∙ read_append (a ∷ ts) (tokens b) (an_arrow ∷ []) ∙ ap (λ us. fold read us (an_arrow ∷ [])) (reads b (a ∷ ts))
  reads (abs name args sigil) ts = reads_arguments args name sigil ts
  reads (variant ps) ts = reads_alternatives ps ts
  reads (fields ps sigil) ts = reads_fields ps sigil ts

  reads_arguments : (args : Taus) (name : List ℕ) (sigil : Sigil) (ts : List Tau) → fold read (abs name none sigil ∷ ts) (argument_tokens args) ≡ abs name args sigil ∷ ts
  reads_arguments none name sigil ts = refl
  reads_arguments (more t args) name sigil ts = reads_more (abs name none sigil ∷ ts) (argument_tokens args) (abs name args sigil ∷ ts) (reads_arguments args name sigil ts) t an_argument (reads t (abs name args sigil ∷ ts))

  reads_alternatives : (ps : Parts) (ts : List Tau) → fold read (variant end ∷ ts) (part_tokens ps) ≡ variant ps ∷ ts
  reads_alternatives end ts = refl
  reads_alternatives (part name t taken ps) ts = reads_more (variant end ∷ ts) (part_tokens ps) (variant ps ∷ ts) (reads_alternatives ps ts) t (a_part name taken) (reads t (variant ps ∷ ts))

  reads_fields : (ps : Parts) (sigil : Sigil) (ts : List Tau) → fold read (fields end sigil ∷ ts) (part_tokens ps) ≡ fields ps sigil ∷ ts
  reads_fields end sigil ts = refl
  reads_fields (part name t taken ps) sigil ts = reads_more (fields end sigil ∷ ts) (part_tokens ps) (fields ps sigil ∷ ts) (reads_fields ps sigil ts) t (a_part name taken) (reads t (fields ps sigil ∷ ts))

abbrev first : List Tau → Tau
first [] = unit
first (t ∷ ts) = t

abbrev pub written : List Token → Tau
written xs = first (fold read [] xs)

pub written_tokens : (t : Tau) → written (tokens t) ≡ t
written_tokens t = ap first (reads t [])

-- a type is stored as its tokens
abbrev pub coded_type : Coded (List Token) → Coded Tau
coded_type code = code_by (List Token) code tokens written written_tokens
