-- What the code answers, as a piece.
use Rattle.ca_lex.specs.Pieces.{Piece, blank_of, comment_of, token_of, too_great, letter_behind, refused}
use Rattle.ca_lex.specs.declared.front.Front.{Front}
use Rattle.ca_lex.specs.declared.front.Front.TheVariants as front

abbrev pub piece_at : Front → Piece
piece_at (front.Blank n) = blank_of n
piece_at (front.Comment n) = comment_of n
piece_at (front.Token n kind) = token_of n kind
piece_at front.TooGreat = too_great
piece_at (front.LetterBehind n) = letter_behind n
piece_at front.Refused = refused
