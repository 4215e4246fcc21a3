-- What contracts see of the parts of an If header while it is read.
use Rattle.std.specs.Prelude.{ℕ, List}
use denote.Ref.{Bor}
use Rattle.dav_headers.specs.IfTokens.{Token, open_list, close_list, negation, angle, square, word}
use Rattle.dav_headers.specs.declared.if_header.tokens.Part.{Part}
use Rattle.dav_headers.specs.declared.if_header.tokens.Part.TheVariants.{Open, Close, Not, Angle, Square, Word}

-- what contracts see of a part of an If header: the token that it is, with the bytes that it borrows
abbrev pub part_view : Part → Token
part_view Open = open_list
part_view Close = close_list
part_view Not = negation
part_view (Angle t) = angle t.now
part_view (Square t) = square t.now
part_view (Word t) = word t.now

-- what contracts see of a part with the text that follows it
abbrev pub part_and_rest : Part × Bor (List ℕ) → Token × List ℕ
part_and_rest found = (part_view found.0, found.1.now)
