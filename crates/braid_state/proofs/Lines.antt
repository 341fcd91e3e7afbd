-- The lines of a head: each ends at its LF, so bytes begin with the lines of one head.
use Rattle.std.proofs.Common.{◌≡◌, ◌≢◌, ℕ, ◌+◌, ◌<◌, Bool, false, List, [], ◌∷◌, ◌++◌, length, take, flat_map, refl, sym, ap, ◌∙◌, append_assoc, arith, inl, inr, subst}
use Rattle.std.proofs.lemmas.Bool.{false≢true}
use Rattle.std.proofs.lemmas.List.{append-nil, append_cancel_left}
use Rattle.std.proofs.lemmas.Grind.{flat_map-append}
use Rattle.std.proofs.lemmas.Str.Parse.{not_in_digits}
use Rattle.braid_state.proofs.Counts.{own}
use Rattle.std.specs.List.{AllByRecursion}
use Rattle.braid_ids.specs.Lists.{Lacks}
use Rattle.braid_ids.specs.Agents.{IsAgent}
use Rattle.braid_ids.proofs.Splits.{lacks_at, one_split}
use Rattle.braid_shelf.specs.ByteClasses.{Are}
use Rattle.braid_state.specs.declared.line.Line.{Line}
use Rattle.braid_state.specs.declared.line.Line.TheVariants.{Title, Agent, Server, Path, Confirmed, Unsent, Empty}
use Rattle.braid_fields.specs.Places.{IsServer, IsPath}
use Rattle.braid_state.specs.Heads.{Head, head_lines, name_of, value_of, line_of, IsCount, HasForm, HasLines}
use Rattle.braid_state.specs.StateFaults.{LacksLine}

-- bytes of which a test takes no LF have none
are_lacks : (test : ℕ → Bool) (bytes : List ℕ) → test 10 ≡ false → Are test bytes → Lacks 10 bytes
are_lacks test [] f h = tt
are_lacks test (x ∷ xs) f h = (λ e. false≢true (sym f ∙ ap test (sym e) ∙ h.0), are_lacks test xs f h.1)

agent_lacks : (bytes : List ℕ) → IsAgent bytes → Lacks 10 bytes
agent_lacks bytes h = lacks_at 10 bytes (λ i l e. elim (h.letters i l) [ inl p ↦ omega (arith, p.0, e) | inr p ↦ omega (arith, p.0, e) ])

pub count_lacks : (digits : List ℕ) → IsCount digits → Lacks 10 digits
count_lacks digits h = lacks_at 10 digits (λ i l. not_in_digits own digits 10 h.are_digits (λ r. omega (arith, r.0)) i l)

pub server_lacks : (address : List ℕ) → IsServer address → Lacks 10 address
server_lacks address h = are_lacks _ address refl h.visible

pub path_lacks : (path : List ℕ) → IsPath path → Lacks 10 path
path_lacks path h = are_lacks _ path refl h.allowed

-- what stands in a line of its form has no LF
pub value_lacks : (head : Head) (line : Line) → HasForm head line → Lacks 10 (value_of head line)
value_lacks head Title h = tt
value_lacks head Agent h = agent_lacks head.agent h
value_lacks head Server h = server_lacks head.server h
value_lacks head Path h = path_lacks head.path h
value_lacks head Confirmed h = count_lacks head.confirmed h
value_lacks head Unsent h = count_lacks head.unsent h.0
value_lacks head Empty h = tt

-- a line is split into its name, its value and LF in one way
pub value_is : (line : Line) (value other bytes rest more : List ℕ) → Lacks 10 value → bytes ≡ name_of line ++ (value ++ 10 ∷ rest) → Lacks 10 other → bytes ≡ name_of line ++ (other ++ 10 ∷ more) → (value ≡ other) × (rest ≡ more)
value_is line value other bytes rest more k e l f = one_split 10 value rest other more k l (append_cancel_left (name_of line) _ _ (sym e ∙ f))

pub line_text : (head : Head) (line : Line) (more : List ℕ) → line_of head line ++ more ≡ name_of line ++ (value_of head line ++ 10 ∷ more)
line_text head line more = append_assoc (name_of line) (value_of head line ++ 10 ∷ []) more ∙ ap (λ t. name_of line ++ t) (append_assoc (value_of head line) (10 ∷ []) more)

-- both heads have the same in this line
abbrev pub SameIn : Head → Head → Line → Type 0
SameIn h k line = value_of h line ≡ value_of k line

line_same : (h k : Head) (line : Line) (x y : List ℕ) → HasForm h line → HasForm k line → line_of h line ++ x ≡ line_of k line ++ y → SameIn h k line × (x ≡ y)
line_same h k line x y f g e =
    one_split 10 (value_of h line) x (value_of k line) y (value_lacks h line f) (value_lacks k line g)
    (append_cancel_left (name_of line) _ _ (sym (line_text h line x) ∙ e ∙ line_text k line y))

pub lines_same : (lines : List Line) (h k : Head) (x y : List ℕ) → AllByRecursion (HasForm h) lines → AllByRecursion (HasForm k) lines → flat_map (line_of h) lines ++ x ≡ flat_map (line_of k) lines ++ y
    → AllByRecursion (SameIn h k) lines × (x ≡ y)
lines_same [] h k x y f g e = (tt, e)
lines_same (l ∷ ls) h k x y f g e =
    let one = line_same h k l (flat_map (line_of h) ls ++ x) (flat_map (line_of k) ls ++ y) f.0 g.0
    (sym (append_assoc (line_of h l) (flat_map (line_of h) ls) x) ∙ e ∙ append_assoc (line_of k l) (flat_map (line_of k) ls) y) in
    let more = lines_same ls h k x y f.1 g.1 one.1 in
    ((one.0, more.0), more.1)

-- bytes begin with these lines of one head, and one rest is left behind them
pub same_rest : (lines : List Line) (h k : Head) (x y bytes : List ℕ) → HasLines lines h x bytes → HasLines lines k y bytes → AllByRecursion (SameIn h k) lines × (x ≡ y)
same_rest lines h k x y bytes f g = lines_same lines h k x y f.forms g.forms (sym f.spelled ∙ g.spelled)

all_join : (P : Line → Type 0) (a b : List Line) → AllByRecursion P a → AllByRecursion P b → AllByRecursion P (a ++ b)
all_join P [] b h k = k
all_join P (x ∷ a) b h k = (h.0, all_join P a b h.1 k)

all_front : (P : Line → Type 0) (a b : List Line) → AllByRecursion P (a ++ b) → AllByRecursion P a
all_front P [] b h = tt
all_front P (x ∷ a) b h = (h.0, all_front P a b h.1)

all_back : (P : Line → Type 0) (a b : List Line) → AllByRecursion P (a ++ b) → AllByRecursion P b
all_back P [] b h = h
all_back P (x ∷ a) b h = all_back P a b h.1

-- one line more
pub one_more : (lines : List Line) (line : Line) (head : Head) (rest more bytes : List ℕ) → HasLines lines head rest bytes → HasForm head line → rest ≡ name_of line ++ (value_of head line ++ 10 ∷ more) → HasLines (lines ++ line ∷ []) head more bytes
one_more lines line head rest more bytes h f e = record {
  forms = all_join (HasForm head) lines (line ∷ []) h.forms (f, tt);
  spelled =
      h.spelled ∙ ap (λ t. flat_map (line_of head) lines ++ t) (e ∙ sym (line_text head line more))
      ∙ sym (append_assoc (flat_map (line_of head) lines) (line_of head line) more)
      ∙ ap (λ t. t ++ more) (ap (λ t. flat_map (line_of head) lines ++ t) (sym (append-nil (line_of head line))) ∙ sym (flat_map-append (line_of head) lines (line ∷ [])));
}

-- the lines without what comes last
pub front_lines : (lines last : List Line) (head : Head) (rest bytes : List ℕ) → HasLines (lines ++ last) head rest bytes → HasLines lines head (flat_map (line_of head) last ++ rest) bytes
front_lines lines last head rest bytes h = record {
  forms = all_front (HasForm head) lines last h.forms;
  spelled = h.spelled ∙ ap (λ t. t ++ rest) (flat_map-append (line_of head) lines last) ∙ append_assoc (flat_map (line_of head) lines) (flat_map (line_of head) last) rest;
}

-- a rest that begins with no line of the form behind these lines is a bad line
pub bad_line : (count : ℕ) (line : Line) (head : Head) (rest bytes : List ℕ) → count < length head_lines → take (count + 1) head_lines ≡ take count head_lines ++ line ∷ [] → HasLines (take count head_lines) head rest bytes
    → ((other : Head) (more : List ℕ) → AllByRecursion (SameIn head other) (take count head_lines) → HasForm other line → rest ≢ name_of line ++ (value_of other line ++ 10 ∷ more)) → LacksLine rest bytes
bad_line count line head rest bytes l e h none = record {
  count = count;
  head = head;
  fewer = l;
  good = h;
  bad = λ other more k.
      let w : HasLines (take count head_lines ++ line ∷ []) other more bytes = subst (λ ls. HasLines ls other more bytes) e k in
      let front = front_lines (take count head_lines) (line ∷ []) other more bytes w in
      let same = same_rest (take count head_lines) head other rest _ bytes h front in
      none other more same.0 (all_back (HasForm other) (take count head_lines) (line ∷ []) w.forms).0
      (same.1 ∙ ap (λ t. t ++ more) (append-nil (line_of other line)) ∙ line_text other line more);
}
