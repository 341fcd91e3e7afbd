-- What one request led to, from what its calls gave.
use Rattle.std.proofs.Common.{◌≡◌, ℕ, inl, inr, false, List, Option, None, sym, ◌∙◌, subst}
use Rattle.braid_io.specs.Bells.{Ringing}
use Rattle.braid_io.specs.Outside.{Intake, Outflow, WritesAll, WritesPart}
use Rattle.braid_hall.specs.Passes.{PassView}
use Rattle.braid_store.specs.declared.entry.Entry.{Entry}
use Rattle.braid_http.specs.declared.request.Request.{Request}
use Rattle.braid_http.specs.declared.refusal.Refusal.{Refusal}
use Rattle.braid_http.specs.declared.stop.Stop.{Stop}
use Rattle.braid_http.specs.Replies.{reply_text}
use Rattle.braid_http.specs.Requests.{asked, refused}
use Rattle.braid_http.specs.Asks.{WireView, Answers as Asking}
use Rattle.braid_session.specs.declared.serving.Serving.{Serving}
use Rattle.braid_session.specs.declared.session.SessionEnd.TheVariants.{Closed, Stopped, Spent, Refused, Torn, ReadFault, WriteFault, Worn, Memory}
use Rattle.braid_session.specs.declared.serve.Next.{Next}
use Rattle.braid_session.specs.declared.serve.Next.TheVariants.{Answered, Subscribed, Ended}
use Rattle.braid_session.specs.Sessions.{refusal_reply}
use Rattle.braid_session.specs.Steps.{State, Idled, EndsIn, AnswersTo, AnswersRefusal, IfAnswered, Does}

-- a state, of its parts
abbrev pub state_of : WireView → List ℕ → PassView Entry → Intake → Outflow → Ringing → State
state_of wire marks pass intake outflow ringing = record { wire = wire; marks = marks; pass = pass; intake = intake; outflow = outflow; ringing = ringing }

-- a request was asked for and answered, where what was written before and what was read since are the same
pub does_request : (s : Serving) (next : Next) (q : Request) (wire asked_wire : WireView) (marks more : List ℕ) (p r : PassView Entry) (from between to : Intake) (before middle after : Outflow) (bell rung : Ringing)
    → Asking (asked q) wire.held asked_wire.held from between → middle ≡ before → AnswersTo s next q p r marks more bell rung middle after → to ≡ between
    → Does s next (state_of wire marks p from before bell) (state_of asked_wire more r to after rung)
does_request s next q wire asked_wire marks more p r from between to before middle after bell rung a same w kept = go next w
  where
    asks : Asking (asked q) wire.held asked_wire.held from to
    asks = subst (λ (i : Intake). Asking (asked q) wire.held asked_wire.held from i) (sym kept) a

    go : (next : Next) → AnswersTo s next q p r marks more bell rung middle after → Does s next (state_of wire marks p from before bell) (state_of asked_wire more r to after rung)
    go (Answered close) (text, replied, is, w) = (q, text, asks, replied, is, subst (λ (o : Outflow). WritesAll text o after) same w)
    go (Subscribed end begun) e = (q, asks, subst (λ (o : Outflow). EndsIn s end begun q p r marks more bell rung o after) same e)
    go (Ended Closed) e = absurd e
    go (Ended Stopped) e = absurd e
    go (Ended Spent) e = absurd e
    go (Ended (Refused status)) e = absurd e
    go (Ended Torn) e = absurd e
    go (Ended ReadFault) e = absurd e
    go (Ended WriteFault) (text, replied, w) = inl (q, text, asks, replied, subst (λ (o : Outflow). WritesPart text o after) same w)
    go (Ended Worn) ((wish, means, idled, late), o) = (q, wish, asks, means, record { idled = idled; outflow = o ∙ same }, late)
    go (Ended Memory) (inl idled, o) = (o ∙ same, inl (asks.all, asks.took, idled))
    go (Ended Memory) (inr (wish, means, vain), o) = (o ∙ same, inr (q, wish, asks, means, vain))

-- the same of bytes that are no request
pub does_refusal : (s : Serving) (next : Next) (f : Refusal) (rest : List ℕ) (wire asked_wire : WireView) (marks : List ℕ) (p : PassView Entry) (from between to : Intake) (before middle after : Outflow) (bell : Ringing)
    → Asking (refused f) wire.held rest from between → middle ≡ before → Idled p p marks marks bell bell → AnswersRefusal next f middle after → to ≡ between
    → Does s next (state_of wire marks p from before bell) (state_of asked_wire marks p to after bell)
does_refusal s next f rest wire asked_wire marks p from between to before middle after bell a same idled w kept = go next w
  where
    asks : Asking (refused f) wire.held rest from to
    asks = subst (λ (i : Intake). Asking (refused f) wire.held rest from i) (sym kept) a

    go : (next : Next) → AnswersRefusal next f middle after → Does s next (state_of wire marks p from before bell) (state_of asked_wire marks p to after bell)
    go (Answered close) e = absurd e
    go (Subscribed end begun) e = absurd e
    go (Ended Closed) e = absurd e
    go (Ended Stopped) e = absurd e
    go (Ended Spent) e = absurd e
    go (Ended (Refused status)) (is, w) = (f, rest, asks, idled, is, subst (λ (o : Outflow). WritesAll (reply_text false (refusal_reply f)) o after) same w)
    go (Ended Torn) e = absurd e
    go (Ended ReadFault) e = absurd e
    go (Ended WriteFault) w = inr (f, rest, asks, idled, subst (λ (o : Outflow). WritesPart (reply_text false (refusal_reply f)) o after) same w)
    go (Ended Worn) e = absurd e
    go (Ended Memory) e = (e ∙ same, inl (asks.all, asks.took, idled))

-- a wire that gave a request may go on, and what ends a session says nothing of it
pub live_behind : (next : Next) (over : Option Stop) → over ≡ None → IfAnswered next (over ≡ None)
live_behind (Answered close) over e = e
live_behind (Subscribed end begun) over e = tt
live_behind (Ended end) over e = tt

-- bytes that are no request are not answered so that a session goes on
pub refusal_ends : (next : Next) (f : Refusal) (before after : Outflow) (over : Option Stop) → AnswersRefusal next f before after → IfAnswered next (over ≡ None)
refusal_ends (Answered close) f before after over e = absurd e
refusal_ends (Subscribed end begun) f before after over e = absurd e
refusal_ends (Ended end) f before after over e = tt
