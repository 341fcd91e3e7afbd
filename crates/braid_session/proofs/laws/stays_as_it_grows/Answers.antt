use Rattle.braid_session.proofs.Growing.{stays, text_stays, places_stay, fits_longer}
use Rattle.braid_session.proofs.laws.stays_as_it_grows.Goals as goal

pub returns : goal.returns
returns c = record { answers = stays; text = text_stays; places = places_stay; whole = fits_longer }
