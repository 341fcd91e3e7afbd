use Rattle.braid_store.proofs.Later.{fits_longer_book}
use Rattle.braid_store.proofs.laws.fits_longer.Goals as goal

pub returns : goal.returns
returns c = record { law = fits_longer_book }
