-- What a request means is one thing, and so is the reply to a wish on a legal book.
use Rattle.std.proofs.Common.{◌≡◌, ◌≢◌, ℕ, Bool, true, false, true≢false, List, ◌++◌, refl, ap, sym, ◌∙◌, subst, take, drop, Option, None, Some, Result, Ok, Err}
use Rattle.std.specs.Prelude.{MatchOption, if◌then◌else◌}
use Rattle.std.specs.Ordering.{ordering_reverse}
use Rattle.std.specs.declared.cmp.Ordering.{Ordering}
use Rattle.std.specs.declared.cmp.Ordering.TheVariants.{Less, Equal, Greater}
use Rattle.std.proofs.lemmas.Cmp.{nat_list_cmp_total}
use Rattle.std.proofs.lemmas.List.{take-append-drop}
use Rattle.braid_ids.specs.Identifiers.{id_cmp}
use Rattle.braid_ids.specs.Frontiers.{rising_ids}
use Rattle.braid_ids.proofs.Ids.{id_same}
use Rattle.braid_change.specs.Updates.{UpdateView, IsUpdate}
use Rattle.braid_fields.specs.Table.{members_of}
use Rattle.braid_grammar.specs.declared.put.PutFault.{PutFault}
use Rattle.braid_grammar.specs.declared.put.PutFault.TheVariants as faults
use Rattle.braid_grammar.proofs.Puts.{puts_one, put_is_update}
use Rattle.braid_graph.specs.Entries.{GraphEntry, HoldsAll}
use Rattle.braid_graph.specs.Ancestries.{IsLeastUnheld}
use Rattle.braid_graph.specs.Frontiers.{IsFrontierOf}
use Rattle.braid_graph.proofs.Frontiers.{one_frontier}
use Rattle.braid_text.specs.Histories.{graph_of, text_at, IsLegal}
use Rattle.braid_store.specs.declared.entry.Entry.{Entry}
use Rattle.braid_store.specs.declared.put.Put.{Put}
use Rattle.braid_store.specs.declared.put.Put.TheVariants as puts
use Rattle.braid_store.specs.declared.got.Got.{Got}
use Rattle.braid_store.specs.declared.got.GetFault.{GetFault}
use Rattle.braid_store.specs.declared.got.GetFault.TheVariants as gets
use Rattle.braid_store.specs.Books.{of_path, IsLegalBook}
use Rattle.braid_store.specs.Reads.{IsRead, IsGetFault, IsUnheldOf}
use Rattle.braid_store.proofs.Paths.{of_path_append}
use Rattle.braid_store.proofs.Later.{legal_front}
use Rattle.braid_store.proofs.Judged.{one}
use Rattle.braid_http.specs.declared.request.Request.{Request}
use Rattle.braid_http.specs.declared.reply.Reply.{Reply}
use Rattle.braid_http.specs.declared.reply.Reply.TheVariants.{Text}
use Rattle.braid_session.specs.declared.serving.Serving.{Serving}
use Rattle.braid_session.specs.declared.denial.Denial.{Denial}
use Rattle.braid_session.specs.declared.wish.Wish.{Wish}
use Rattle.braid_session.specs.declared.wish.Wish.TheVariants.{Read, Watch, Store}
use Rattle.braid_session.specs.Orders.{is_subscription, list_in_use, denial_of}
use Rattle.braid_session.specs.Wishes.{Means, Meaning, denied, wanted, by_head, get, put, no_put, parts_of, denial_of_put, version_asked}
use Rattle.braid_session.specs.Answers.{Answers, found, not_found, answered, not_held, entry_of, fault_reply, put_reply, unheld_reply}

-- a PUT that is denied is not so for want of memory
no_want : (fault : PutFault) (d : Denial) → denial_of_put fault ≡ Some d → fault ≡ faults.Memory → ⊥
no_want faults.Memory d e h = cc
no_want (faults.Reason reason) d e h = cc
no_want faults.Short d e h = cc
no_want faults.Extra d e h = cc

wanting : (fault : PutFault) (d : Denial) (r s : Result UpdateView PutFault) → r ≡ Err fault → s ≡ Err faults.Memory → denial_of_put fault ≡ Some d → r ≢ s
wanting fault d r s i j e h = no_want fault d e cc

none_some : {A : Type 0} (x : Option A) (d : A) → x ≡ Some d → x ≡ None → ⊥
none_some x d e h = let k : Some d ≡ None = sym e ∙ h in cc

same_some : {A : Type 0} (x : Option A) (d e : A) → x ≡ Some d → x ≡ Some e → d ≡ e
same_some x d e h k = let w : Some d ≡ Some e = sym h ∙ k in cc

same_update : (u v : UpdateView) (r s : Result UpdateView PutFault) → r ≡ Ok u → s ≡ Ok v → r ≡ s → u ≡ v
same_update u v r s i j e = cc

same_fault : (f g : PutFault) (r s : Result UpdateView PutFault) → r ≡ Err f → s ≡ Err g → r ≡ s → f ≡ g
same_fault f g r s i j e = cc

not_both : (u : UpdateView) (f : PutFault) (r s : Result UpdateView PutFault) → r ≡ Ok u → s ≡ Err f → r ≡ s → ⊥
not_both u f r s i j e = cc

-- a request means one thing
pub one_meaning : (s : Serving) (q : Request) (m n : Meaning) → Means s q m → Means s q n → m ≡ n
one_meaning s q _ _ (by_head d e) (by_head f g) = ap denied (same_some (denial_of s q) d f e g)
one_meaning s q _ _ (by_head d e) (get g h) = absurd (none_some (denial_of s q) d e g)
one_meaning s q _ _ (by_head d e) (put u g h r) = absurd (none_some (denial_of s q) d e g)
one_meaning s q _ _ (by_head d e) (no_put f c g h r k) = absurd (none_some (denial_of s q) d e g)
one_meaning s q _ _ (get e h) (by_head f g) = absurd (none_some (denial_of s q) f g e)
one_meaning s q _ _ (get e h) (get f g) = refl
one_meaning s q _ _ (get e h) (put u g k r) = absurd (true≢false (sym h ∙ k))
one_meaning s q _ _ (get e h) (no_put f c g k r w) = absurd (true≢false (sym h ∙ k))
one_meaning s q _ _ (put u e h r) (by_head f g) = absurd (none_some (denial_of s q) f g e)
one_meaning s q _ _ (put u e h r) (get g k) = absurd (true≢false (sym k ∙ h))
one_meaning s q _ _ (put u e h r) (put v g k t) =
    ap (λ (w : UpdateView). wanted (Store w)) (same_update u v (Ok u) (Ok v) refl refl (puts_one (parts_of q) q.body (Ok u) (Ok v) (λ x. cc) (λ x. cc) r t))
one_meaning s q _ _ (put u e h r) (no_put f c g k t w) =
    absurd (not_both u f (Ok u) (Err f) refl refl (puts_one (parts_of q) q.body (Ok u) (Err f) (λ x. cc) (wanting f c (Err f) (Err faults.Memory) refl refl w) r t))
one_meaning s q _ _ (no_put f c g k t w) (by_head d e) = absurd (none_some (denial_of s q) d e g)
one_meaning s q _ _ (no_put f c g k t w) (get e h) = absurd (true≢false (sym h ∙ k))
one_meaning s q _ _ (no_put f c g k t w) (put u e h r) =
    absurd (not_both u f (Ok u) (Err f) refl refl (puts_one (parts_of q) q.body (Ok u) (Err f) (λ x. cc) (wanting f c (Err f) (Err faults.Memory) refl refl w) r t))
one_meaning s q _ _ (no_put f c g k t w) (no_put a b h l r v) =
    let same : f ≡ a = same_fault f a (Err f) (Err a) refl refl (puts_one (parts_of q) q.body (Err f) (Err a) (wanting f c (Err f) (Err faults.Memory) refl refl w) (wanting a b (Err a) (Err faults.Memory) refl refl v) t r) in
    ap denied (same_some (denial_of_put a) c b (rw same at w) v)

-- it is not both denied and wanted
pub denied_or_wanted : (s : Serving) (q : Request) (d : Denial) (wish : Wish) → Means s q (denied d) → Means s q (wanted wish) → ⊥
denied_or_wanted s q d wish x y = go (one_meaning s q (denied d) (wanted wish) x y)
  where
    go : denied d ≡ wanted wish → ⊥
    go e = cc

pub one_denial : (s : Serving) (q : Request) (d e : Denial) → Means s q (denied d) → Means s q (denied e) → d ≡ e
one_denial s q d e x y = go (one_meaning s q (denied d) (denied e) x y)
  where
    go : denied d ≡ denied e → d ≡ e
    go h = cc

pub one_wish : (s : Serving) (q : Request) (v w : Wish) → Means s q (wanted v) → Means s q (wanted w) → v ≡ w
one_wish s q v w x y = go (one_meaning s q (wanted v) (wanted w) x y)
  where
    go : wanted v ≡ wanted w → v ≡ w
    go h = cc

-- an update that is wanted can be held
abbrev pub IsHoldable : Wish → Type 0
IsHoldable (Read at) = Unit {0}
IsHoldable (Watch from) = Unit {0}
IsHoldable (Store update) = IsUpdate update

pub holdable : (s : Serving) (q : Request) (wish : Wish) → Means s q (wanted wish) → IsHoldable wish
holdable s q _ (get e g) = go (is_subscription q)
  where
    go : (b : Bool) → IsHoldable (if b then Watch (rising_ids (members_of (list_in_use q))) else Read (version_asked (members_of (list_in_use q))))
    go true = tt
    go false = tt
holdable s q _ (put u e g r) = put_is_update u (parts_of q) q.body r

-- the front of a legal book is legal
pub legal_take : (n : ℕ) (book : List Entry) → IsLegalBook book → IsLegalBook (take n book)
legal_take n book legal p =
    let whole : IsLegal (of_path (take n book ++ drop n book) p) = rw (take-append-drop n book) (legal p) in
    legal_front (of_path (take n book) p) (of_path (drop n book) p) (subst IsLegal (of_path_append (take n book) (drop n book) p) whole)

-- the least identifier that is not held is one
pub one_least : (es : List GraphEntry) (F : List (List ℕ)) (v w : List ℕ) → IsLeastUnheld es F v → IsLeastUnheld es F w → v ≡ w
one_least es F v w a b = go (id_cmp v w) refl
  where
    go : (o : Ordering) → id_cmp v w ≡ o → v ≡ w
    go Less e = absurd (b.least v a.named a.unheld (nat_list_cmp_total.antisymm w v ∙ ap ordering_reverse e))
    go Equal e = id_same v w e
    go Greater e = absurd (a.least w b.named b.unheld e)

-- where one is not held, not all are
pub not_all_held : (es : List GraphEntry) (F : List (List ℕ)) (v : List ℕ) → HoldsAll es F → IsLeastUnheld es F v → ⊥
not_all_held es F v h l = l.unheld (h v l.named)

module _ (B : List Entry) (path : List ℕ) where
  same_version : (at : Option (List (List ℕ))) (v w : List (List ℕ))
      → MatchOption at (IsFrontierOf (graph_of (of_path B path)) v) (λ (F : List (List ℕ)). v ≡ F) → MatchOption at (IsFrontierOf (graph_of (of_path B path)) w) (λ (F : List (List ℕ)). w ≡ F) → v ≡ w
  same_version None v w a b = one_frontier _ v a ∙ sym (one_frontier _ w b)
  same_version (Some F) v w a b = a ∙ sym b

  same_text : (at : Option (List (List ℕ))) (x y : Got) → IsRead B path at x → IsRead B path at y → Text x.version x.text ≡ Text y.version y.text
  same_text at x y a b =
      let v = same_version at x.version y.version a.1.version b.1.version in
      (λ i. Text (v i) ((a.1.text ∙ ap (text_at (of_path B path)) v ∙ sym b.1.text) i))

  no_fault : (at : Option (List (List ℕ))) (x : Got) (fault : GetFault) (reply : Reply) → IsRead B path at x → IsGetFault B path at fault → fault_reply fault ≡ Some reply → ⊥
  no_fault at x gets.Absent reply a b e = a.0 b
  no_fault None x (gets.Unknown v) reply a b e = b.1
  no_fault (Some F) x (gets.Unknown v) reply a b e = not_all_held _ F v (subst (HoldsAll (graph_of (of_path B path))) a.1.version a.1.held) b.1
  no_fault at x gets.Memory reply a b e = cc

  same_unheld : (at : Option (List (List ℕ))) (v w : List ℕ) → IsUnheldOf (of_path B path) at v → IsUnheldOf (of_path B path) at w → v ≡ w
  same_unheld None v w a b = absurd a
  same_unheld (Some F) v w a b = one_least _ F v w a b

  same_get_fault : (at : Option (List (List ℕ))) (f g : GetFault) (x y : Reply) → IsGetFault B path at f → IsGetFault B path at g → fault_reply f ≡ Some x → fault_reply g ≡ Some y → x ≡ y
  same_get_fault at gets.Absent gets.Absent x y a b e h = same_some _ x y e h
  same_get_fault at gets.Absent (gets.Unknown w) x y a b e h = absurd (b.0 a)
  same_get_fault at (gets.Unknown v) gets.Absent x y a b e h = absurd (a.0 b)
  same_get_fault at (gets.Unknown v) (gets.Unknown w) x y a b e h = same_some (fault_reply (gets.Unknown w)) x y (rw (same_unheld at v w a.1 b.1) at e) h
  same_get_fault at gets.Memory g x y a b e h = cc
  same_get_fault at gets.Absent gets.Memory x y a b e h = cc
  same_get_fault at (gets.Unknown v) gets.Memory x y a b e h = cc

told : (id : List ℕ) (a : Put) (reply : Reply) → put_reply id a ≡ Some reply → a ≡ puts.Memory → ⊥
told id puts.Memory reply e h = cc
told id puts.New reply e h = cc
told id puts.Known reply e h = cc
told id (puts.Clash other) reply e h = cc
told id (puts.UnknownParent parent) reply e h = cc
told id (puts.OutOfRange patch len) reply e h = cc
told id (puts.Full which limit) reply e h = cc

-- a legal book has one reply to a wish
pub one_reply : (B : List Entry) (by : ℕ) (path : List ℕ) (wish : Wish) (x y : Reply) (es fs : List Entry)
    → IsLegalBook B → IsHoldable wish → Answers B by path wish x es → Answers B by path wish y fs → x ≡ y
one_reply B by path _ _ _ _ _ legal hold (found at got r) (found _ other t) = same_text B path at got other r t
one_reply B by path _ _ y _ _ legal hold (found at got r) (not_found _ fault _ f e) = absurd (no_fault B path at got fault y r f e)
one_reply B by path _ x _ _ _ legal hold (not_found at fault _ f e) (found _ got r) = absurd (no_fault B path at got fault x r f e)
one_reply B by path _ x y _ _ legal hold (not_found at fault _ f e) (not_found _ other _ g h) = same_get_fault B path at fault other x y f g e h
one_reply B by path _ x y _ _ legal hold (answered update a _ p e) (answered _ b _ r h) =
    let same : a ≡ b = one B (entry_of by path update) legal hold.rising a p (told update.id a x e) ∙ sym (one B (entry_of by path update) legal hold.rising b r (told update.id b y h)) in
    same_some (put_reply update.id b) x y (rw same at e) h
one_reply B by path _ _ _ _ _ legal hold (not_held from v a) (not_held _ w b) = ap unheld_reply (one_least _ from v w a b)

-- a subscription that begins at what is held has no such reply
pub no_reply : (B : List Entry) (by : ℕ) (path : List ℕ) (from : List (List ℕ)) (x : Reply) (es : List Entry)
    → HoldsAll (graph_of (of_path B path)) from → Answers B by path (Watch from) x es → ⊥
no_reply B by path from _ _ h (not_held _ v a) = not_all_held _ from v h a
