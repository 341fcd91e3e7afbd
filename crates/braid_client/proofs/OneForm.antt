-- Words are a form of one command at most.
use Rattle.std.proofs.Common.{◌≡◌, ℕ, ◌+◌, List, [], ◌∷◌, codes, refl, sym, ap, subst, ◌∙◌, arith}
use Rattle.braid_change.specs.Texts.{IsTextOf}
use Rattle.braid_grammar.proofs.Characters.{text_chars}
use Rattle.braid_sync.specs.declared.place.Place.{Place}
use Rattle.braid_client.specs.declared.command.Command.{Command}
use Rattle.braid_client.specs.declared.command.Command.TheVariants.{New, Edit, Set, Show, Sync, Follow}
use Rattle.braid_lines.specs.Numbers.{IsNumber}
use Rattle.braid_client.specs.Forms.{Asks}
use Rattle.braid_client.specs.Laws.{OneForm}

-- a command's own word
abbrev pub own_word : Command → List ℕ
own_word (New agent place) = codes "new"
own_word (Edit start end text) = codes "edit"
own_word (Set text) = codes "set"
own_word Show = codes "show"
own_word Sync = codes "sync"
own_word (Follow count) = codes "follow"

pub own_is : (own : List ℕ) (rest : List (List ℕ)) (c : Command) → Asks own rest c → own ≡ own_word c
own_is own rest (New agent place) h = h.0
own_is own rest (Edit start end text) h = h.0
own_is own rest (Set text) h = h.0
own_is own rest Show h = h.0
own_is own rest Sync h = h.0
own_is own rest (Follow count) h = h.0

pub one_number : (word : List ℕ) (n m : ℕ) → IsNumber word n → IsNumber word m → n ≡ m
one_number word n m h k = h.value ∙ sym k.value

one_text : (letters text other : List ℕ) → IsTextOf text letters → IsTextOf other letters → text ≡ other
one_text letters text other h k = sym (text_chars text letters h) ∙ text_chars other letters k

-- the words behind a command's own ask for one command
same_new : (own : List ℕ) (rest : List (List ℕ)) (agent other : List ℕ) (place there : Place) → Asks own rest (New agent place) → Asks own rest (New other there) → New agent place ≡ New other there
same_new own rest agent other place there h k =
    let e : agent ∷ place.server ∷ place.path ∷ [] ≡ other ∷ there.server ∷ there.path ∷ [] = sym h.1 ∙ k.1 in
    let a : agent ≡ other = cc in
    let s : place.server ≡ there.server = cc in
    let p : place.path ≡ there.path = cc in
    λ i. New (a i) (record { server = s i; path = p i })

same_edit : (own : List ℕ) (rest : List (List ℕ)) (n m k l : ℕ) (text other : List ℕ) → Asks own rest (Edit n m text) → Asks own rest (Edit k l other) → Edit n m text ≡ Edit k l other
same_edit own rest n m k l text other (_, (first, last, letters, is, a, small, b, low, t)) (_, (front, back, signs, also, d, little, f, few, s)) =
    let e : first ∷ last ∷ letters ∷ [] ≡ front ∷ back ∷ signs ∷ [] = sym is ∙ also in
    let x : first ≡ front = cc in
    let y : last ≡ back = cc in
    let z : letters ≡ signs = cc in
    let from : n ≡ k = one_number front n k (subst (λ (w : List ℕ). IsNumber w n) x a) d in
    let to : m ≡ l = one_number back m l (subst (λ (w : List ℕ). IsNumber w m) y b) f in
    let same : text ≡ other = one_text signs text other (subst (IsTextOf text) z t) s in
    λ i. Edit (from i) (to i) (same i)

same_set : (own : List ℕ) (rest : List (List ℕ)) (text other : List ℕ) → Asks own rest (Set text) → Asks own rest (Set other) → Set text ≡ Set other
same_set own rest text other h k =
    let e : h.1.0 ∷ [] ≡ k.1.0 ∷ [] = sym h.1.1 ∙ k.1.1 in
    let z : h.1.0 ≡ k.1.0 = cc in
    ap Set (one_text k.1.0 text other (subst (IsTextOf text) z h.1.2) k.1.2)

same_follow : (own : List ℕ) (rest : List (List ℕ)) (n m : ℕ) → Asks own rest (Follow n) → Asks own rest (Follow m) → Follow n ≡ Follow m
same_follow own rest n m h k =
    let e : h.1.0 ∷ [] ≡ k.1.0 ∷ [] = sym h.1.1 ∙ k.1.1 in
    let z : h.1.0 ≡ k.1.0 = cc in
    ap Follow (one_number k.1.0 n m (subst (λ (w : List ℕ). IsNumber w n) z h.1.2) k.1.2)

-- the sum of a word's first two codes, by which the commands' own words are told apart
abbrev mark : List ℕ → ℕ
mark (a ∷ b ∷ word) = a + b
mark word = 0

same_command : (own : List ℕ) (rest : List (List ℕ)) (c d : Command) → own_word c ≡ own_word d → Asks own rest c → Asks own rest d → c ≡ d
same_command own rest (New agent place) (New other there) e h k = same_new own rest agent other place there h k
same_command own rest (Edit n m text) (Edit i j other) e h k = same_edit own rest n m i j text other h k
same_command own rest (Set text) (Set other) e h k = same_set own rest text other h k
same_command own rest Show Show e h k = refl
same_command own rest Sync Sync e h k = refl
same_command own rest (Follow n) (Follow m) e h k = same_follow own rest n m h k
same_command own rest c d e h k = absurd (let z = ap mark e in omega (arith, z))

pub one_command : (own : List ℕ) (rest : List (List ℕ)) (c d : Command) → Asks own rest c → Asks own rest d → c ≡ d
one_command own rest c d h k = same_command own rest c d (sym (own_is own rest c h) ∙ own_is own rest d k) h k

pub one_form : OneForm
one_form words name other command wish f g =
    let s : f.own ∷ name ∷ f.rest ≡ g.own ∷ other ∷ g.rest = sym f.split ∙ g.split in
    let own : f.own ≡ g.own = cc in
    let named : name ≡ other = cc in
    let rest : f.rest ≡ g.rest = cc in
    let asks : Asks g.own g.rest command = subst (λ (x : List ℕ). Asks x g.rest command) own (subst (λ (x : List (List ℕ)). Asks f.own x command) rest f.asks) in
    (named, one_command g.own g.rest command wish asks g.asks)
