-- The token at the front of bytes, as the lexer finds it (docs/LANGUAGE.md, "Heap files", tokens).
use Rattle.std.specs.Prelude.{ℕ, List, [], ◌∷◌, codes, if◌then◌else◌}
use Rattle.std.specs.List.{prefix_len}
use Rattle.std.specs.Str.{bytes_eq}
use Rattle.cg_base.specs.Bytes.{digit}
use Rattle.cg_lexer.specs.Bytes.{small, large, part_of_name}
use Rattle.cg_heaptext_def.specs.Tokens.{is_sign}
use Rattle.cg_heaptext_lexer.specs.declared.front.Found.{Found}
use Rattle.cg_heaptext_lexer.specs.declared.token.TokenKind.{TokenKind}
use Rattle.cg_heaptext_lexer.specs.declared.token.TokenKind.TheVariants.{Number, Lower, Upper, Sign, Unknown, End}

abbrev pub found_of : TokenKind → ℕ → Found
found_of kind n = record { kind = kind; len = n }

-- a sign of one byte, the first
abbrev pub short_found : ℕ → Found
short_found b = if is_sign (b ∷ []) then found_of Sign 1 else found_of Unknown 0

-- a sign, the longer one where it stands
abbrev pub sign_found : List ℕ → Found
sign_found [] = found_of Unknown 0
sign_found (b ∷ []) = short_found b
sign_found (b ∷ c ∷ bytes) = if bytes_eq (b ∷ c ∷ []) (codes "#{") then found_of Sign 2 else short_found b

-- what stands at the front
abbrev pub found : List ℕ → Found
found [] = found_of End 0
found (b ∷ bytes) =
    if digit b then found_of Number (prefix_len digit (b ∷ bytes))
    else if small b then found_of Lower (prefix_len part_of_name (b ∷ bytes))
    else if large b then found_of Upper (prefix_len part_of_name (b ∷ bytes))
    else sign_found (b ∷ bytes)
