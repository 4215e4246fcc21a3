-- The types of the table may be sent as texts.
use Rattle.std.proofs.Common.{◌≡◌, ℕ, Bool, true, false, ◌&&◌, nat_le, List, [], ◌∷◌, map, codes, Option, Some, None, refl, arith}
use Rattle.std.specs.Char.{to_ascii_lowercase}
use Rattle.std.specs.List.{find, list_all}
use Rattle.std.specs.Option.{option_or, option_and_then}
use Rattle.dav_core.specs.Element.{ElementTree, text, text_of, child_elements, tree_then, no_trees}
use Rattle.dav_xml.specs.Sendable.{AreSendable}
use Rattle.dav_xml.proofs.LegalTrees.{legal_word}
use Rattle.dav_presented.specs.Names.{is_dav}
use Rattle.dav_presented.specs.Types.{text_type, image_type, sound_type, document_type, packed_type, type_by, type_after, extension_of, type_of}
use Rattle.dav_presented.specs.Typed.{type_at, type_in}

-- whether a text is of visible ASCII and blanks, and not empty
abbrev pub is_word : List ℕ → Bool
is_word [] = false
is_word (b ∷ bs) = list_all (λ b. nat_le 32 b && nat_le b 126) (b ∷ bs)

abbrev is_word_if_any : Option (List ℕ) → Bool
is_word_if_any None = true
is_word_if_any (Some kind) = is_word kind

-- what is told is such a text, if there is one
pub record TellsWord (found : Option (List ℕ)) : Type 0 where
  word : is_word_if_any found ≡ true

pub word_sent : (kind : List ℕ) → is_word kind ≡ true → AreSendable false (tree_then (text kind) no_trees)
word_sent [] e = absurd cc
word_sent (b ∷ bs) e = (legal_word (b ∷ bs) e, tt)

pub type_sent : (kind : List ℕ) → TellsWord (Some kind) → AreSendable false (tree_then (text kind) no_trees)
type_sent kind h = word_sent kind h.word

pub no_type : TellsWord None
no_type = record { word = refl }

text_told : (extension : List ℕ) → TellsWord (text_type extension)
text_told extension = record { word = grind (arith) }

image_told : (extension : List ℕ) → TellsWord (image_type extension)
image_told extension = record { word = grind (arith) }

sound_told : (extension : List ℕ) → TellsWord (sound_type extension)
sound_told extension = record { word = grind (arith) }

document_told : (extension : List ℕ) → TellsWord (document_type extension)
document_told extension = record { word = grind (arith) }

packed_told : (extension : List ℕ) → TellsWord (packed_type extension)
packed_told extension = record { word = grind (arith) }

either : (one other : Option (List ℕ)) → TellsWord one → TellsWord other → TellsWord (option_or one other)
either None other h k = k
either (Some kind) other h k = h

by_told : (extension : List ℕ) → TellsWord (type_by extension)
by_told x = either _ _ (text_told x) (either _ _ (image_told x) (either _ _ (sound_told x) (either _ _ (document_told x) (packed_told x))))

after_told : (extension : Option (List ℕ)) → TellsWord (type_after extension)
after_told None = no_type
after_told (Some extension) = by_told (map to_ascii_lowercase extension)

in_told : (address : Option (List ℕ)) → TellsWord (option_and_then type_of address)
in_told None = no_type
in_told (Some address) = after_told (extension_of address)

at_told : (href : Option ElementTree) → TellsWord (type_at href)
at_told None = no_type
at_told (Some href) = in_told (text_of href)

pub address_told : (response : ElementTree) → TellsWord (type_in response)
address_told response = at_told (find (is_dav (codes "href")) (child_elements response))
