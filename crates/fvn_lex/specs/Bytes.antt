-- What single bytes are in a text.
use Rattle.std.specs.Prelude.{ℕ, Bool, ◌==◌, ◌&&◌, ◌||◌, not, nat_le, List, codes}
use Rattle.std.specs.List.{starts_with}
use Rattle.std.specs.Prelude.{nat_eq}

-- white space: tab, line feed, carriage return, space
unfoldable pub is_blank : ℕ → Bool
is_blank b = b == 9 || b == 10 || b == 13 || b == 32

-- a byte that is a token by itself: one of ( ) , [ ] { }
unfoldable pub is_special : ℕ → Bool
is_special b = b == 40 || b == 41 || b == 44 || b == 91 || b == 93 || b == 123 || b == 125

-- a byte of words: 33 to 126, the special ones among them
unfoldable pub is_printed : ℕ → Bool
is_printed b = nat_le 33 b && nat_le b 126

-- the backquote
abbrev pub is_backquote : ℕ → Bool
is_backquote b = b == 96

-- a byte that goes on with a word: any printed one, but a special one only directly after a backquote
unfoldable pub goes_on : (quoted : Bool) → ℕ → Bool
goes_on quoted b = is_printed b && (quoted || not (is_special b))

-- a text that begins with three dashes or three stars
unfoldable pub begins_comment : List ℕ → Bool
begins_comment text = starts_with nat_eq text (codes "---") || starts_with nat_eq text (codes "***")

-- a text that begins with three dashes or three stars and a parenthesis
unfoldable pub begins_block : List ℕ → Bool
begins_block text = starts_with nat_eq text (codes "---(") || starts_with nat_eq text (codes "***(")
