use Rattle.braid_client.proofs.keeping.load_bytes.Goals as goal

pub returns-in-Bytes : goal.returns-in-Bytes
returns-in-Bytes g c = record { gives = c.in-Bytes.ensures.load }

pub returns-in-Nothing : goal.returns-in-Nothing
returns-in-Nothing g c = record { gives = c.in-Nothing.ensures.load }

pub returns-in-Failed : goal.returns-in-Failed
returns-in-Failed g c = record { gives = c.in-Failed.ensures.load }

pub returns-in-Memory : goal.returns-in-Memory
returns-in-Memory g c = record { gives = c.in-Memory.ensures.load }
