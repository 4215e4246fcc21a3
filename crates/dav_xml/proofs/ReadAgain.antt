-- What is read is written so that the same is read again.
use Rattle.std.proofs.Common.{◌≡◌, ℕ, ◌≤◌, false, cond, ltb, List, [], length, Result, Ok, Err, refl}
use Rattle.dav_core.specs.Element.{ElementTree}
use Rattle.dav_xml.specs.declared.error.Fault.{Fault}
use Rattle.dav_xml.specs.declared.error.Fault.TheVariants.{Malformed, TooLarge}
use Rattle.dav_xml.specs.Read.{◌>>=◌}
use Rattle.dav_xml.specs.Token.{Markup}
use Rattle.dav_xml.specs.Markup.{tokens_of}
use Rattle.dav_xml.specs.Nesting.{nested}
use Rattle.dav_xml.specs.Flat.{IsRaw}
use Rattle.dav_xml.specs.Legal.{HasLegalTexts}
use Rattle.dav_xml.specs.Front.{lines, are_chars, after_mark, after_declaration, raw_document}
use Rattle.dav_xml.specs.Namespaces.{expanded_tree, document}
use Rattle.dav_xml.specs.Written.{written, document_of}
use Rattle.dav_xml.specs.Expanded.{IsExpanded, IsFew}
use Rattle.dav_xml.proofs.NestedRaw.{nested_raw}
use Rattle.dav_xml.proofs.ReadTrees.{read_tree}
use Rattle.dav_xml.proofs.ReadLegal.{read_legal}
use Rattle.dav_xml.proofs.RoundTrip.{means_itself, document_again}

on_tokens : (t : ElementTree) (r : Result (List Markup) Fault) → (r >>= nested) ≡ Ok t → IsRaw 64 t
on_tokens t (Err f) e = absurd cc
on_tokens t (Ok ts) e = nested_raw ts t e

on_rest : (t : ElementTree) (r : Result (List ℕ) Fault) → (r >>= λ rest. tokens_of rest >>= nested) ≡ Ok t → IsRaw 64 t
on_rest t (Err f) e = absurd cc
on_rest t (Ok rest) e = on_tokens t (tokens_of rest) e

pub raw_is_raw : (bytes : List ℕ) (t : ElementTree) → raw_document bytes ≡ Ok t → IsRaw 64 t
unfolding raw_document
raw_is_raw bytes t e = on_rest t (cond (ltb 0x10_0000 (length bytes)) (Err TooLarge) (cond (are_chars bytes) (after_declaration (after_mark (lines false bytes))) (Err Malformed))) e

on_raw : (t : ElementTree) (r : Result ElementTree Fault) → ((raw : ElementTree) → r ≡ Ok raw → IsRaw 64 raw) → (r >>= expanded_tree []) ≡ Ok t → HasLegalTexts t → IsExpanded 64 t
on_raw t (Err f) one e l = absurd cc
on_raw t (Ok raw) one e l = read_tree 64 raw [] t tt (one raw refl) e l

pub read_is_expanded : (bytes : List ℕ) (t : ElementTree) → document bytes ≡ Ok t → IsExpanded 64 t
unfolding document
read_is_expanded bytes t e = on_raw t (raw_document bytes) (λ raw is. raw_is_raw bytes raw is) e (read_legal bytes t e)

pub read_again : (bytes : List ℕ) (t : ElementTree) → document bytes ≡ Ok t → IsFew [] (written [] t) → length (document_of t) ≤ 0x10_0000 → document (document_of t) ≡ Ok t
read_again bytes t e le short = document_again t t (means_itself 64 [] t (read_is_expanded bytes t e)) le short
