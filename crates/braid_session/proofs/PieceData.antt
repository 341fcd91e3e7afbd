-- The data of a subscription's pieces: a stream of their updates, and the data of the chunks that they are.
use Rattle.std.proofs.Common.{◌≡◌, ℕ, ◌<◌, List, [], ◌∷◌, ◌++◌, refl, sym, ap, subst, ◌∙◌, inl, inr, map, length, length-append, take, codes, append_assoc, reverse, Option, Some, None, arith}
use Rattle.std.specs.List.{flat_map, AllByRecursion}
use Rattle.braid_ids.specs.Identifiers.{IsIdentifier}
use Rattle.braid_change.specs.Updates.{UpdateView, IsUpdate}
use Rattle.braid_change.specs.Spellings.{canonical}
use Rattle.braid_change.proofs.Short.{canonical_short}
use Rattle.braid_fields.specs.Chunks.{chunk, beat, last_chunk, IsWrittenChunk, AreWrittenChunks}
use Rattle.braid_fields.proofs.Hexadecimal.{written_chunk, beat_is}
use Rattle.braid_grammar.specs.Streams.{IsGap, no_line, one_more, IsStream}
use Rattle.braid_grammar.proofs.Law.{some_bytes}
use Rattle.braid_grammar.proofs.Canonical.{gap_append, canonical_split}
use Rattle.braid_tree.specs.Trees.{Member}
use Rattle.braid_text.specs.Histories.{IsLegal, IsLegalLog}
use Rattle.braid_text.proofs.Logs.{follows_held}
use Rattle.braid_rebase.proofs.Filtered.{member_filter}
use Rattle.braid_rebase.proofs.Members.{in_log, member_contains}
use Rattle.braid_text.specs.Sent.{is_outside, sent}
use Rattle.braid_http.specs.Bodies.{IsChunkedBody}
use Rattle.braid_http.proofs.WrittenLaws.{writes_chunked}
use Rattle.braid_session.specs.Pieces.{piece_text, updates_in, watch_pieces, last_mark, WatchIsStream}
use Rattle.braid_store.specs.Books.{of_path}
use Rattle.braid_session.specs.Sessions.{subscription_head}
use Rattle.braid_session.proofs.Pieces.{pieces_spell, all_sent, front_legal}

-- the data of a piece: the spelling of an update, or an empty line
abbrev pub piece_data : Option UpdateView → List ℕ
piece_data None = codes "\r\n"
piece_data (Some u) = canonical u

abbrev pub data_of : List (Option UpdateView) → List ℕ
data_of pieces = flat_map piece_data pieces

-- a gap before a stream
gap_first : (g : List ℕ) (us : List UpdateView) (b : List ℕ) → IsGap g → IsStream us b → IsStream us (g ++ b)
gap_first g [] b k s = gap_append g b k s
gap_first g (u ∷ us) b k s = record {
  gap = g ++ s.gap;
  first = s.first;
  rest = s.rest;
  is_gap = gap_append g s.gap k s.is_gap;
  is_first = s.is_first;
  is_rest = s.is_rest;
  spelled = ap (λ (t : List ℕ). g ++ t) s.spelled ∙ sym (append_assoc g s.gap (s.first ++ s.rest));
}

-- the data is a stream of the updates
pub streamed : (ps : List (Option UpdateView)) → AllByRecursion IsUpdate (updates_in ps) → IsStream (updates_in ps) (data_of ps)
streamed [] h = no_line
streamed (None ∷ ps) h = gap_first (codes "\r\n") (updates_in ps) (data_of ps) (one_more (codes "\r\n") [] refl no_line) (streamed ps h)
streamed (Some u ∷ ps) h =
    let s = canonical_split u h.0 in
    subst (λ (t : List ℕ). IsStream (u ∷ updates_in ps) t) (sym (ap (λ (t : List ℕ). t ++ data_of ps) s.spelled ∙ append_assoc s.front s.rest (data_of ps)))
    (record {
      gap = [];
      first = s.front;
      rest = s.rest ++ data_of ps;
      is_gap = no_line;
      is_first = s.is_front;
      is_rest = gap_first s.rest (updates_in ps) (data_of ps) s.is_rest (streamed ps h.1);
      spelled = refl;
    })

some_spelled : (u : UpdateView) → IsUpdate u → 0 < length (canonical u)
some_spelled u h =
    let s = canonical_split u h in
    omega (arith, some_bytes u s.front s.is_front, ap length s.spelled, length-append s.front s.rest)

-- the pieces are chunks of their data as they are written
pub written_pieces : (ps : List (Option UpdateView)) → AllByRecursion IsUpdate (updates_in ps) → AreWrittenChunks (map piece_data ps) (flat_map piece_text ps)
written_pieces [] h = refl
written_pieces (None ∷ ps) h = (beat, flat_map piece_text ps, subst (IsWrittenChunk (codes "\r\n")) (sym beat_is) (written_chunk (codes "\r\n") (omega arith) (omega arith)), written_pieces ps h, refl)
written_pieces (Some u ∷ ps) h = (chunk (canonical u), flat_map piece_text ps, written_chunk (canonical u) (some_spelled u h.0) (canonical_short u h.0), written_pieces ps h.1, refl)

joined : (ps : List (Option UpdateView)) → flat_map (λ (piece : List ℕ). piece) (map piece_data ps) ≡ data_of ps
joined [] = refl
joined (p ∷ ps) = ap (λ (t : List ℕ). piece_data p ++ t) (joined ps)

-- with the last chunk they are a chunked body
pub whole_body : (ps : List (Option UpdateView)) → AllByRecursion IsUpdate (updates_in ps) → IsChunkedBody (data_of ps) (flat_map piece_text ps ++ last_chunk)
whole_body ps h = subst (λ (t : List ℕ). IsChunkedBody t (flat_map piece_text ps ++ last_chunk)) (joined ps) (writes_chunked (map piece_data ps) (flat_map piece_text ps) (written_pieces ps h))

all_of_members : {A : Type 0} (P : A → Type 0) (xs : List A) → ((x : A) → Member x xs → P x) → AllByRecursion P xs
all_of_members P [] h = tt
all_of_members P (x ∷ xs) h = (h x (inl refl), all_of_members P xs (λ y m. h y (inr m)))

named_in : (us : List UpdateView) → IsLegalLog us → (u : UpdateView) → Member u us → IsIdentifier u.id
named_in (w ∷ us) legal u (inl e) = subst (λ (x : UpdateView). IsIdentifier x.id) e legal.0.named
named_in (w ∷ us) legal u (inr m) = named_in us legal.1 u m
named_in [] legal u m = absurd m

-- each update of a legal history is one that the program can hold
log_updates : (us : List UpdateView) → IsLegalLog us → (u : UpdateView) → Member u us → IsUpdate u
log_updates (w ∷ us) legal u (inl e) = subst IsUpdate e (record {
  identifier = legal.0.named;
  identifiers = all_of_members IsIdentifier w.parents (λ p m. let h = follows_held us w legal.0 p m in subst IsIdentifier h.2 (named_in us legal.1 h.0 h.1));
  rising = legal.0.rising;
  built = legal.0.built;
})
log_updates (w ∷ us) legal u (inr m) = log_updates us legal.1 u m
log_updates [] legal u m = absurd m

pub sent_updates : (H : List UpdateView) (F : List (List ℕ)) → IsLegal H → AllByRecursion IsUpdate (sent H F)
sent_updates H F legal = all_of_members IsUpdate (sent H F) (λ u m. log_updates (reverse H) legal u (in_log H u (member_contains H u (member_filter (is_outside H F) u H m).0)))

pub watch_is_stream : WatchIsStream
watch_is_stream book path from n marks legal held rising = (
  flat_map piece_text pieces ++ last_chunk,
  data_of pieces,
  ap (λ (t : List ℕ). t ++ last_chunk) (pieces_spell book path from n marks) ∙ append_assoc (subscription_head (take n book) path) (flat_map piece_text pieces) last_chunk,
  whole_body pieces can_be,
  subst (λ (us : List UpdateView). IsStream us (data_of pieces)) (all_sent book path from legal n marks held rising) (streamed pieces can_be),
)
  where
    pieces : List (Option UpdateView)
    pieces = watch_pieces book path from n marks

    can_be : AllByRecursion IsUpdate (updates_in pieces)
    can_be = subst (AllByRecursion IsUpdate) (sym (all_sent book path from legal n marks held rising))
        (sent_updates (of_path (take (last_mark n marks) book) path) from (front_legal book path from legal (last_mark n marks) path))
