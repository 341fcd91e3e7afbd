-- What a book tells to a wish, and what it gained by it.
use Rattle.std.proofs.Common.{◌≡◌, ℕ, List, [], Some, inl, inr, ◌⊎◌, append-nil, refl, sym, subst, ◌∙◌}
use Rattle.braid_change.specs.Updates.{UpdateView}
use Rattle.braid_store.specs.declared.entry.Entry.{Entry}
use Rattle.braid_store.specs.declared.put.Put.{Put}
use Rattle.braid_store.specs.declared.put.Put.TheVariants as puts
use Rattle.braid_store.specs.Answers.{IsPut}
use Rattle.braid_http.specs.declared.reply.Reply.{Reply}
use Rattle.braid_http.specs.declared.reply.Reply.TheVariants.{Text, Stored}
use Rattle.braid_session.specs.declared.wish.Wish.{Wish}
use Rattle.braid_session.specs.declared.wish.Wish.TheVariants as wishes
use Rattle.braid_session.specs.declared.answer.Question.{Question}
use Rattle.braid_session.specs.declared.answer.Question.TheVariants.{Read, Store}
use Rattle.braid_session.specs.declared.answer.Told.{Told}
use Rattle.braid_session.specs.declared.answer.Told.TheVariants.{Found, NotFound, Answered}
use Rattle.braid_session.specs.Answers.{Answers, found, not_found, answered, put_reply, put_entries, entry_of, MayAdd}
use Rattle.braid_session.specs.Steps.{IsAnswered, IsLacking}
use Rattle.braid_session.specs.Telling.{AsksFor, Tells, told_reply}

-- an answer has a reply, or nothing is added
put_told : (id : List ℕ) (e : Entry) (answer : Put) → (put_entries e answer ≡ []) ⊎ ((reply : Reply) × (put_reply id answer ≡ Some reply))
put_told id e puts.New = inr (Stored id, refl)
put_told id e puts.Known = inl refl
put_told id e (puts.Clash other) = inl refl
put_told id e (puts.UnknownParent other) = inl refl
put_told id e (puts.OutOfRange patch len) = inl refl
put_told id e (puts.Full which limit) = inl refl
put_told id e puts.Memory = inl refl

put_may_add : (B : List Entry) (by : ℕ) (path : List ℕ) (u : UpdateView) (answer : Put) → IsPut B (entry_of by path u) answer → MayAdd B by path (wishes.Store u) (put_entries (entry_of by path u) answer)
put_may_add B by path u answer p = go (put_told u.id (entry_of by path u) answer) where
  go : (put_entries (entry_of by path u) answer ≡ []) ⊎ ((reply : Reply) × (put_reply u.id answer ≡ Some reply)) → MayAdd B by path (wishes.Store u) (put_entries (entry_of by path u) answer)
  go (inl e) = inl e
  go (inr r) = inr (r.0, answered u answer r.0 p r.1)

-- whatever a book tells, it gained what a reply would have told, or nothing
pub told_lacks : (old new : List Entry) (by : ℕ) (path : List ℕ) (wish : Wish) (q : Question) (told : Told) → AsksFor q wish → Tells old by path q told new → IsLacking old by path wish new
told_lacks old new by path wish (Read at) (Found got) a t = record { entries = []; added = inl refl; grew = t.1 ∙ sym (append-nil old) }
told_lacks old new by path wish (Read at) (NotFound fault) a t = record { entries = []; added = inl refl; grew = t.1 ∙ sym (append-nil old) }
told_lacks old new by path wish (Read at) (Answered id put) a t = absurd t
told_lacks old new by path wish (Store id u) (Found got) a t = absurd t
told_lacks old new by path wish (Store id u) (NotFound fault) a t = absurd t
told_lacks old new by path wish (Store id u) (Answered named put) a t = record {
  entries = put_entries (entry_of by path u) put;
  added = subst (λ (w : Wish). MayAdd old by path w (put_entries (entry_of by path u) put)) (sym a.0) (put_may_add old by path u put t.1);
  grew = t.2;
}

-- the reply to what a book told answers the wish
pub told_answers : (old new : List Entry) (by : ℕ) (path : List ℕ) (wish : Wish) (q : Question) (told : Told) (reply : Reply) → AsksFor q wish → Tells old by path q told new
    → told_reply told ≡ Some reply → IsAnswered old by path wish reply new
told_answers old new by path wish (Read at) (Found got) reply a t e =
    let same : Text got.version got.text ≡ reply = cc in
    record {
      entries = [];
      answers = subst (λ (w : Wish). Answers old by path w reply []) (sym a) (subst (λ (x : Reply). Answers old by path (wishes.Read at) x []) same (found at got t.0));
      grew = t.1 ∙ sym (append-nil old);
    }
told_answers old new by path wish (Read at) (NotFound fault) reply a t e = record {
  entries = [];
  answers = subst (λ (w : Wish). Answers old by path w reply []) (sym a) (not_found at fault reply t.0 e);
  grew = t.1 ∙ sym (append-nil old);
}
told_answers old new by path wish (Read at) (Answered id put) reply a t e = absurd t
told_answers old new by path wish (Store id u) (Found got) reply a t e = absurd t
told_answers old new by path wish (Store id u) (NotFound fault) reply a t e = absurd t
told_answers old new by path wish (Store id u) (Answered named put) reply a t e = record {
  entries = put_entries (entry_of by path u) put;
  answers = subst (λ (w : Wish). Answers old by path w reply (put_entries (entry_of by path u) put)) (sym a.0)
      (answered u put reply t.1 (subst (λ (x : List ℕ). put_reply x put ≡ Some reply) (t.0 ∙ a.1) e));
  grew = t.2;
}
